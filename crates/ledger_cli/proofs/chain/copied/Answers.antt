use Rattle.std.proofs.Common.{subst, sym}
use Rattle.snapshot_codec.specs.Snapshot.{IsReadable}
use Rattle.ledger_cli.proofs.chain.copied.Goals as goal

pub returns-clause-readable : goal.returns-clause-readable
returns-clause-readable c = subst IsReadable (sym c.in_ok-copy.ensures) c.requires

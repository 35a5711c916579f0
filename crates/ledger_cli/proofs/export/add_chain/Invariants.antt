use Rattle.snapshot_codec.specs.Snapshot.{IsReadable}
use Rattle.ledger_cli.proofs.export.add_chain.Given as goal

abbrev pub invariant-loop-place : goal.invariant-loop-place
invariant-loop-place g l = IsReadable l.state

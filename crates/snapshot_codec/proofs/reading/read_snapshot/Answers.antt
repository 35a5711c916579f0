use Rattle.std.proofs.Common.{arith}
use Rattle.snapshot_codec.proofs.SnapshotLaws.{is_found, is_only}
use Rattle.snapshot_codec.proofs.reading.read_snapshot.Goals as goal

pub returns-clause-found : goal.returns-clause-found
returns-clause-found c = is_found c.args.bytes.now c.read_prefix.result (λ i. omega (arith, c.type_inv.bytes i)) c.read_prefix.ensures

pub returns-clause-only : goal.returns-clause-only
returns-clause-only c = is_only c.args.bytes.now c.read_prefix.result c.read_prefix.ensures

use Rattle.std.proofs.Common.{arith}
use Rattle.snapshot_codec.proofs.BatchLaws.{is_found, is_only}
use Rattle.snapshot_codec.proofs.batch.read_batch.Goals as goal

pub returns-clause-found : goal.returns-clause-found
returns-clause-found c = is_found c.args.before c.args.bytes.now c.read_whole.result (λ i. omega (arith, c.type_inv.bytes i)) c.read_whole.ensures

pub returns-clause-only : goal.returns-clause-only
returns-clause-only c = is_only c.args.before c.args.bytes.now c.read_whole.result c.read_whole.ensures

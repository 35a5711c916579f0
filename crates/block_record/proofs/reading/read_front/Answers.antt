use Rattle.std.proofs.Common.{arith}
use Rattle.block_record.proofs.RecordLaws.{front_is_found, front_is_only}
use Rattle.block_record.proofs.reading.read_front.Goals as goal

pub returns-clause-found : goal.returns-clause-found
returns-clause-found c = front_is_found c.args.bytes.now c.read_begun.result (λ i. omega (arith, c.type_inv.bytes i)) c.read_begun.ensures

pub returns-clause-only : goal.returns-clause-only
returns-clause-only c = front_is_only c.args.bytes.now c.read_begun.result c.read_begun.ensures

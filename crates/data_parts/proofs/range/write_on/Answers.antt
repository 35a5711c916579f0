use Rattle.std.proofs.Common.{arith}
use Rattle.data_parts.specs.Parts.{bytes_in, before}
use Rattle.data_parts.proofs.PartLaws.{write_end, start_at}
use Rattle.data_parts.proofs.range.write_on.Goals as goal

pub returns-else-pieces-index-clause-bytes : goal.returns-else-pieces-index-clause-bytes
returns-else-pieces-index-clause-bytes c =
    let start = start_at c.loop-index.pieces c.loop-index.index c.index-pieces-index.result c.loop-index.invariant.order c.loop-index-test.true in
    write_end (bytes_in c.args.pieces.now) (bytes_in c.loop-index.pieces) c.args.bytes.now c.args.at (before c.loop-index.pieces c.loop-index.index) (omega arith) c.loop-index.invariant.bytes

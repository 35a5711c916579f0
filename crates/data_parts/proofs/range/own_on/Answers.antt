use Rattle.std.proofs.Common.{arith}
use Rattle.data_parts.specs.Parts.{tests_in, test_of, before}
use Rattle.data_parts.proofs.PartLaws.{ready_end, start_at}
use Rattle.data_parts.proofs.range.own_on.Goals as goal

pub returns-else-pieces-index-clause-ok : goal.returns-else-pieces-index-clause-ok
returns-else-pieces-index-clause-ok c =
    let start = start_at c.loop-index.pieces c.loop-index.index c.index-pieces-index.result c.loop-index.invariant.order c.loop-index-test.true in
    ready_end (tests_in (test_of c.args.prepare) c.loop-index.pieces) c.args.at c.args.len (before c.loop-index.pieces c.loop-index.index) (omega arith) c.loop-index.invariant.ready

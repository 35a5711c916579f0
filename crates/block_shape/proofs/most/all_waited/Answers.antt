use Rattle.std.proofs.lemmas.Bool.{le-ltb}
use Rattle.block_shape.proofs.MostLaws.{none_listed, all_listed, none_left}
use Rattle.block_shape.proofs.most.all_waited.Goals as goal

pub loop-key-preserved : goal.loop-key-preserved
loop-key-preserved c =
    none_listed (c.in-Some.key.now, c.in-Some.wait.now) c.loop-key.rest c.next.new.self c.loop-key.waited.items
    _ c.in-Some.ensures.steps (le-ltb 0 c.in-Some.wait.now.count c.if-wait-gt0.false) c.loop-key.invariant

pub returns-clause-listed : goal.returns-clause-listed
returns-clause-listed c =
    all_listed c.loop-key.rest c.loop-key.waited.items _ (none_left c.next.result c.loop-key.rest c.next.new.self c.in_default.not-Some c.next.ensures.steps) c.loop-key.invariant

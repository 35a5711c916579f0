use Rattle.block_shape.proofs.WaitLaws.{Counted}
use Rattle.block_shape.proofs.waits.waits_of.Given as goal

abbrev pub invariant-loop-position : goal.invariant-loop-position
invariant-loop-position l = Counted l.order l.waits l.written l.read l.position

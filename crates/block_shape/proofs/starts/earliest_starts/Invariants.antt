use Rattle.block_shape.proofs.Passing.{Passed}
use Rattle.block_shape.proofs.starts.earliest_starts.Given as goal

abbrev pub invariant-loop-chosen : goal.invariant-loop-chosen
invariant-loop-chosen l = Passed l.measure l.order l.starts.items l.written l.read l.longest l.chosen-index

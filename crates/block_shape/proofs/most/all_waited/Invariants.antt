use Rattle.std.proofs.Common.{◌≡◌, ◌++◌, length}
use Rattle.block_shape.specs.Most.{waited_in}
use Rattle.block_shape.proofs.most.all_waited.Given as goal

-- what is listed, and what is waited for of the rest
abbrev pub invariant-loop-key : goal.invariant-loop-key
invariant-loop-key l = l.waited.items ++ waited_in l.rest ≡ waited_in l.waits.entries

abbrev pub decreases-loop-key : goal.decreases-loop-key
decreases-loop-key l = length l.rest

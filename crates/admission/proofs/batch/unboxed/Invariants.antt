use Rattle.std.proofs.Common.{◌≡◌, ◌++◌}
use Rattle.std.specs.Vec.Iter.{into_iter_items}
use Rattle.admission.proofs.batch.unboxed.Given as goal

-- what was taken out of its box so far, and the boxes that are left
abbrev pub invariant-loop-one : goal.invariant-loop-one
invariant-loop-one l = l.chosen ++ into_iter_items l.one-iterator ≡ l.fn.line.order

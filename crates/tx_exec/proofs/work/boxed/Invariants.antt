use Rattle.std.proofs.Common.{◌≡◌, ◌++◌}
use Rattle.std.specs.Vec.Iter.{into_iter_items}
use Rattle.tx_exec.proofs.work.boxed.Given as goal

-- what was boxed so far, and what is left
abbrev pub invariant-loop-one : goal.invariant-loop-one
invariant-loop-one l = l.boxes ++ into_iter_items l.one-iterator ≡ l.fn.chosen

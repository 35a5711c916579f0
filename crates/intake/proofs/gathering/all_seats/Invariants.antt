use Rattle.std.proofs.Common.{◌≡◌, ◌++◌, Ok, map}
use Rattle.std.specs.Vec.Iter.{into_iter_items}
use Rattle.intake.proofs.gathering.all_seats.Given as goal

-- the seats so far, and those that are left
abbrev pub invariant-loop-done : goal.invariant-loop-done
invariant-loop-done l = map (λ s. Ok s) l.seats ++ into_iter_items l.done-iterator ≡ l.fn.sent.items

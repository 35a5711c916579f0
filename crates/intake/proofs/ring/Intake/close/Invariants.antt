use Rattle.std.proofs.Common.{◌≡◌, ◌++◌, true}
use Rattle.crossbeam_queue.specs.Passes.{view, IsPassOf}
use Rattle.intake.proofs.ring.Intake.close.Given as goal

-- what is left so far was taken by the joined pass
abbrev pub invariant-loop : goal.invariant-loop
invariant-loop g l =
    IsPassOf l.self.ring l.pass
    × ((view l.pass).takes ≡ true)
    × ((view l.pass).made ≡ (view l.initial.pass).made)
    × ((view l.pass).taken ≡ (view l.initial.pass).taken ++ l.left)
    × ((view l.pass).joined ≡ (view l.initial.pass).joined)

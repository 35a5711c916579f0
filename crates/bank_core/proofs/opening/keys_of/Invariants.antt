use Rattle.bank_core.proofs.Openings.{KeysSoFar}
use Rattle.bank_core.proofs.opening.keys_of.Given as goal

abbrev pub invariant-loop-position : goal.invariant-loop-position
invariant-loop-position g l = KeysSoFar (g.L.Locked.job l.locked) l.keys.items l.position

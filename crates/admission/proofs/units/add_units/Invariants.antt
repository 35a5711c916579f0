use Rattle.std.proofs.Common.{◌≡◌, ◌+◌, take}
use Rattle.std.specs.Prelude.{if◌then◌else◌}
use Rattle.sol_base.specs.declared.key.Key.{Key}
use Rattle.admission.specs.Admission.{locks_write}
use Rattle.admission.specs.Sums.{sum_at}
use Rattle.admission.proofs.units.add_units.Given as goal

-- the limit is in the sums of the keys so far
abbrev pub invariant-loop-lock : goal.invariant-loop-lock
invariant-loop-lock l = (key : Key) → sum_at l.sums key ≡ sum_at l.fn.sums key + (if locks_write (take l.lock-index l.locks) key then l.limit else 0)

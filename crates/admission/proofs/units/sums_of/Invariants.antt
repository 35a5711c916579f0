use Rattle.std.proofs.Common.{◌≡◌, take}
use Rattle.sol_base.specs.declared.key.Key.{Key}
use Rattle.admission.specs.Admission.{units_on}
use Rattle.admission.specs.Sums.{sum_at}
use Rattle.admission.proofs.units.sums_of.Given as goal

-- the sums of the transactions so far
abbrev pub invariant-loop-one : goal.invariant-loop-one
invariant-loop-one l = (key : Key) → sum_at l.sums key ≡ units_on key (take l.one-index l.order)

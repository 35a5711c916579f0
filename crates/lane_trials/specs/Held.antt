-- What a lane holds.
use Rattle.std.specs.Prelude.{◌≡◌, Bool, false, Option, Some, None}
use Rattle.bank_law.specs.History.{PassView, holds, returns}
use Rattle.bank_core.specs.declared.origin.Origin.{Origin}
use Rattle.bank_core.specs.declared.loan.Loan.{Loan}

-- the loan that a lane has, if any, is of this desk, and its position is the one that the lane
-- holds
module _ {W T : Type 0} {G : _} where
  abbrev pub Holds : Option (Loan W T G) → Origin T → PassView → Type 0
  Holds None origin v = holds v.mine ≡ None
  Holds (Some loan) origin v =
      (loan.lane ≡ v.lane) × (loan.origin.value ≡ origin) × (holds v.mine ≡ Some loan.position)

-- a lane that has not given anything back had no return
abbrev pub ReturnsOnce : Bool → PassView → Type 0
ReturnsOnce gave_back v = gave_back ≡ false → returns v.mine ≡ 0

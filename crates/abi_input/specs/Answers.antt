-- What the calls answer.
use Rattle.std.specs.Prelude.{◌≡◌, ℕ, Bool, true, List, slice_get, Option, Some, Result, Ok, Err, option_map}
use Rattle.sol_base.specs.declared.account.Account.{Account}
use Rattle.sol_base.specs.declared.lock.Meta.{Meta}
use Rattle.sol_base.specs.Accounts.{accounts_of}
use Rattle.abi_input.specs.declared.fault.BackFault.{BackFault}
use Rattle.abi_input.specs.declared.fault.BackFault.TheVariants.{LengthTooLarge, OutOfMemory as no_memory}
use Rattle.abi_input.specs.declared.fault.PatchFault.{PatchFault}
use Rattle.abi_input.specs.declared.fault.PatchFault.TheVariants.{LengthTooLarge as too_large, OutOfMemory as no_room}
use Rattle.abi_input.specs.declared.taking.TakenBack.{TakenBack}

abbrev pub TakesBack : Result (List Account) ℕ → Result TakenBack BackFault → Type 0
TakesBack wanted (Ok taken) = wanted ≡ Ok (accounts_of taken.accounts)
TakesBack wanted (Err (LengthTooLarge i)) = wanted ≡ Err i
TakesBack wanted (Err no_memory) = Unit {0}

-- an account whose flag is true has another value after than before
abbrev pub DifferWhereTouched : List Bool → List Account → List Account → Type 0
DifferWhereTouched touched before after =
    (place : ℕ) → slice_get touched place ≡ Some true
    → ¬ (slice_get after place ≡ slice_get before place)

abbrev pub Patches : Result (List ℕ) ℕ → List ℕ → List ℕ → Result (Unit {0}) PatchFault → Type 0
Patches wanted old new (Ok _) = wanted ≡ Ok new
Patches wanted old new (Err (too_large i)) = (wanted ≡ Err i) × (new ≡ old)
Patches wanted old new (Err no_room) = new ≡ old

-- the place of the meta that was found
abbrev pub IsPlaceOf : Option (ℕ × Meta) → ℕ → Type 0
IsPlaceOf found place = option_map (λ item. item.0) found ≡ Some place

-- a refusal names the meta that was found
abbrev pub RefusesBack : Option (ℕ × Meta) → BackFault → Type 0
RefusesBack found (LengthTooLarge i) = IsPlaceOf found i
RefusesBack found no_memory = Unit {0}

abbrev pub RefusesPatch : Option (ℕ × Meta) → PatchFault → Type 0
RefusesPatch found (too_large i) = IsPlaceOf found i
RefusesPatch found no_room = Unit {0}

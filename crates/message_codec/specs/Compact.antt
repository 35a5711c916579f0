-- Compact lengths (Solana): the 7-bit digits of a number up to 65,535, low digit first.
use Rattle.std.specs.Prelude.{◌≡◌, ◌≢◌, ℕ, ◌+◌, ◌*◌, ◌/◌, ◌%◌, ◌<◌, ◌≤◌, nat_lt, List, [], ◌∷◌, ◌++◌, if◌then◌else◌}
pub use Rattle.spec_base.specs.Bytes.{max_count}

-- as few digits as hold the number, and at least one; each but the last has 128 added
unfoldable pub compact : ℕ → List ℕ
compact v =
    if nat_lt v 128 then v ∷ [] else
    if nat_lt v 16384 then (v % 128 + 128) ∷ (v / 128) ∷ [] else
    (v % 128 + 128) ∷ (v / 128 % 128 + 128) ∷ (v / 16384) ∷ []

-- the number that digits are of
abbrev pub digits_value : List ℕ → ℕ
digits_value [] = 0
digits_value (digit ∷ digits) = digit % 128 + 128 * digits_value digits

-- what follows a digit: each but the last has 128 added, and the last is not 0
abbrev pub AreLaterDigits : List ℕ → Type 0
AreLaterDigits [] = ⊥
AreLaterDigits (digit ∷ []) = (0 < digit) × (digit < 128)
AreLaterDigits (digit ∷ next ∷ digits) =
    (128 ≤ digit) × (digit < 256) × AreLaterDigits (next ∷ digits)

abbrev pub AreDigits : List ℕ → Type 0
AreDigits [] = ⊥
AreDigits (digit ∷ []) = digit < 128
AreDigits (digit ∷ next ∷ digits) = (128 ≤ digit) × (digit < 256) × AreLaterDigits (next ∷ digits)

-- begins with the spelling of a length
abbrev pub BeginsWithLength : List ℕ → Type 0
BeginsWithLength bytes = (v : ℕ) × (rest : List ℕ) × (v ≤ max_count) × (bytes ≡ compact v ++ rest)

-- a proper prefix of the spelling of a length
abbrev pub IsCutLength : List ℕ → Type 0
IsCutLength bytes =
    (v : ℕ) × (rest : List ℕ) × (v ≤ max_count) × (rest ≢ []) × (bytes ++ rest ≡ compact v)

-- Counts of faults, which never fall.
use Rattle.std.specs.Prelude.{◌≡◌, ℕ, ◌-◌, ◌^◌, ◌≤◌, Result, Ok, Err}

-- The count rose. At its last value, 2^64 - 1, it stands still.
pub record Rose (old new : ℕ) : Type 0 where
  pub grows : old ≤ new
  pub last : old ≡ new → 2 ^ 64 - 1 ≤ old

-- Any failure is a counted one; after every other answer the count stands.
abbrev pub CountsFailures : {A E : Type 0} → Result A E → ℕ → ℕ → Type 0
CountsFailures (Ok _) old new = new ≡ old
CountsFailures (Err _) old new = Rose old new

-- What a source has left and a sink holds, where told.
use Rattle.std.specs.Prelude.{◌≡◌, ℕ, ◌<◌, ◌≤◌, List, length, Option, Some, None, Result, Ok, Err}
use Rattle.sol_io.specs.declared.fault.ReadFault.{ReadFault}
use Rattle.sol_io.specs.declared.fault.ReadFault.TheVariants as read
use Rattle.std.specs.Io.KnownBytes.{Consumes}
pub use Rattle.std.specs.Io.KnownBytes.{Consumes, Keeps, Appends, IsAtEnd}

-- What reading to the end answers, where the bytes are told.
abbrev pub ReadsAll : Option (List ℕ) → ℕ → Result (List ℕ) ReadFault → Type 0
ReadsAll None limit (Ok bs) = length bs ≤ limit
ReadsAll None limit (Err _) = Unit {0}
ReadsAll (Some xs) limit (Ok bs) = (bs ≡ xs) × (length xs ≤ limit)
ReadsAll (Some xs) limit (Err read.TooLong) = limit < length xs
ReadsAll (Some xs) limit (Err read.Failed) = Unit {0}
ReadsAll (Some xs) limit (Err read.OutOfMemory) = Unit {0}

-- What is left is what was left without some front.
abbrev pub LosesFront : Option (List ℕ) → Option (List ℕ) → Type 0
LosesFront old new = (front : List ℕ) × Consumes old new front

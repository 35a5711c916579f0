-- What was asked for (the project's own).
use Rattle.std.specs.Prelude.{◌≡◌, ℕ, List, length, Ok}
use Rattle.snapshot_codec.specs.declared.snapshot.Snapshot.{Snapshot}
use Rattle.snapshot_codec.specs.SnapshotReading.{prefix_of}
use Rattle.command_parts.specs.declared.input.Given.{Given}
use Rattle.command_parts.specs.declared.input.Given.TheVariants.{Value, Nothing}

-- a fact of the value, where there is one
abbrev pub IfValue : {X : Type 0} → (X → Type 0) → Given X → Type 0
IfValue P (Value x) = P x
IfValue P (Nothing told) = Unit {0}

-- all the bytes are read as the snapshot
abbrev pub IsReadWhole : List ℕ → Snapshot → Type 0
IsReadWhole bytes snapshot =
    prefix_of bytes ≡ Ok (record { snapshot = snapshot; length = length bytes })

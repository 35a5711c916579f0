-- What a run keeps.
use Rattle.std.specs.Prelude.{◌≡◌, ◌<◌, ◌≤◌, length, map, None}
use Rattle.sbpf_memory.specs.Memory.{Ranges, IsMemory, bounds_of, ranges}
use Rattle.sbpf_machine.specs.Steps.{State, IsHelper}

-- the bytes of the program, the prepared places, the accounts that were lent, and how long the
-- input is; and of what is a memory, that it is one, and its ranges: where each begins, how long it
-- is and whether it is written
pub record KeepsRanges (old new : Ranges) : Type 0 where
  pub program : new.program ≡ old.program
  pub prepared : new.input.prepared ≡ old.input.prepared
  pub lent : new.input.lent ≡ old.input.lent
  pub input : length new.input.bytes ≡ length old.input.bytes
  pub memory : IsMemory old → IsMemory new
  pub bounds : IsMemory old → map bounds_of (ranges new) ≡ map bounds_of (ranges old)

-- no unit is gained, and one is taken where a run has come to a system call
pub record TakesUnits (old new : State) : Type 0 where
  pub most : new.units ≤ old.units
  pub fewer : old.stop ≡ None → IsHelper new.stop → new.units < old.units

-- the text and the ranges
pub record Keeps (old new : State) : Type 0 where
  pub text : new.text ≡ old.text
  pub ranges : KeepsRanges old.context.memory new.context.memory

-- Slots in which wires are weighed beside each other.
use Rattle.std.specs.Prelude.{⊤, ◌≡◌, ℕ, List, Option, Some, None, IfSome}
use Rattle.std.specs.BTreeSet.{BTreeSet}
use Rattle.sol_base.specs.declared.key.Hash32.{Hash32}
use Rattle.message_codec.specs.declared.parsed.Parsed.{Parsed}
use Rattle.status_cache.specs.declared.recent.Mark.{Mark}
use Rattle.admission.specs.declared.beside.Slot.{Slot}
use Rattle.admission.specs.declared.beside.Slot.TheVariants.{Fresh, Done, Short}
use Rattle.admission.specs.declared.weighing.Weighed.{Weighed}
use Rattle.admission.specs.Admission.{IsSound, Start}
use Rattle.admission.specs.Weighing.{IsTold, is_noted, weighed}

-- the slot of a wire that is not weighed
abbrev pub fresh : Parsed → Slot
fresh wire = Fresh wire

-- what the wire of the slot weighs, once it is weighed
abbrev pub found_in : Slot → Option Weighed
found_in (Fresh wire) = None
found_in (Done one) = Some one
found_in Short = None

-- the wire of the slot, if it has one, was read, and whether its message was processed is noted
abbrev pub IsFresh : List Mark → BTreeSet Hash32 → Slot → Type 0
IsFresh marks noted (Fresh wire) = IsSound wire × IsTold marks wire (is_noted noted wire)
IsFresh marks noted (Done one) = ⊤
IsFresh marks noted Short = ⊤

-- where memory sufficed, the slot has what its wire weighs at a position
abbrev pub WeighsAt : Start → ℕ → Slot → Slot → Type 0
WeighsAt start position (Fresh wire) new =
    IfSome (found_in new) (λ one. one ≡ weighed start position wire)
WeighsAt start position (Done one) new = ⊤
WeighsAt start position Short new = ⊤

-- The places of a text, counted in slots, and where an instruction leads.
use Rattle.std.specs.Prelude.{◌≡◌, ℕ, ◌+◌, ◌/◌, ◌==◌, ◌&&◌, not, Bool, true, false, List, length, nat_lt, Option, Some, None, if◌then◌else◌, ℤ, pos, negsuc, ◌+ℤ◌}
use Rattle.sbpf_isa.specs.Rows.{kind_at}
use Rattle.sbpf_isa.specs.Slots.{slot_of}
use Rattle.sbpf_isa.specs.declared.slot.Slot.{Slot}
use Rattle.sbpf_isa.specs.declared.rows.OpKind.{OpKind}
use Rattle.sbpf_isa.specs.declared.rows.OpKind.TheVariants.{Jump, JumpIf, Call, CallRegister, Exit, LoadWide}
use Rattle.sbpf_rules.specs.declared.table.TheConstants.{MAX_SLOTS}

abbrev pub slot_count : List ℕ → ℕ
slot_count text = length text / 8

-- the most slots of a text (the project's own)
abbrev pub max_slots : ℕ
max_slots = MAX_SLOTS

-- a start: a slot is there whose opcode is not 0
unfoldable pub is_start : List ℕ → ℕ → Bool
is_start text place = nat_lt place (slot_count text) && not ((slot_of text place).opcode == 0)

-- a start at a place that a jump leads to, which may lie before the text
abbrev pub is_start_at : List ℕ → ℤ → Bool
is_start_at text (pos place) = is_start text place
is_start_at text (negsuc _) = false

-- what the instruction at a place is, where a slot is there and its opcode has a row
unfoldable pub instruction_at : List ℕ → ℕ → Option OpKind
instruction_at text place =
    if nat_lt place (slot_count text) then kind_at (slot_of text place).opcode else None

-- the place that a jump, or a call into the program, leads to
abbrev pub leads_to : OpKind → Slot → ℕ → Option ℤ
leads_to Jump slot place = Some (pos (place + 1) +ℤ slot.offset)
leads_to (JumpIf when operand) slot place = Some (pos (place + 1) +ℤ slot.offset)
leads_to Call slot place = if slot.src == 1 then Some (pos (place + 1) +ℤ slot.imm) else None
leads_to _ slot place = None

-- whether an instruction can be followed by the one after it: all but `ja` and `exit`
abbrev pub goes_on : OpKind → Bool
goes_on Jump = false
goes_on Exit = false
goes_on _ = true

-- how many slots an instruction takes
abbrev pub slots_taken : OpKind → ℕ
slots_taken LoadWide = 2
slots_taken _ = 1

-- the places that an execution can reach: the first slot, the place after an instruction that goes
-- on, the target of a jump or a call, and after `callx` any start
pub data Reached (text : List ℕ) : ℕ → Type 0 where
  first : Reached text 0
  after : {place : ℕ} {kind : OpKind} → Reached text place → instruction_at text place ≡ Some kind
      → goes_on kind ≡ true → Reached text (place + slots_taken kind)
  jumped : {place target : ℕ} {kind : OpKind} → Reached text place
      → instruction_at text place ≡ Some kind
      → leads_to kind (slot_of text place) place ≡ Some (pos target) → Reached text target
  called : {place target : ℕ} → Reached text place → instruction_at text place ≡ Some CallRegister
      → is_start text target ≡ true → Reached text target

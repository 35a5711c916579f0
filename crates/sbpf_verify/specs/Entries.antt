-- Decoded instructions: the list of entries that a machine runs on, one for each slot.
use Rattle.std.specs.Prelude.{◌≡◌, ◌≢◌, ℕ, ◌+◌, ◌*◌, ◌^◌, ◌≤◌, true, List, length, slice_get, Some, unwrap_or, pos}
use Rattle.std.specs.Int.{w32, w64, cast_unsigned}
use Rattle.sbpf_isa.specs.Slots.{slot_of}
use Rattle.sbpf_isa.specs.declared.rows.OpKind.{OpKind}
use Rattle.sbpf_isa.specs.declared.rows.OpKind.TheVariants.{Call, CallRegister, LoadWide}
use Rattle.sbpf_verify.specs.Opcodes.{meaning}
use Rattle.sbpf_verify.specs.Places.{slot_count, is_start, instruction_at, leads_to, goes_on, slots_taken}
use Rattle.sbpf_verify.specs.declared.entry.Entry.{Entry}
use Rattle.sbpf_isa.specs.Calls.{IsCallNumber}

-- the immediate of an instruction in 64 bits: sign-extended; that of `lddw` has its low half in the
-- first slot and its high half in the second
abbrev pub immediate_of : List ℕ → ℕ → OpKind → ℕ
immediate_of text place LoadWide =
    cast_unsigned w32 (slot_of text place).imm
    + 2 ^ 32 * cast_unsigned w32 (slot_of text (place + 1)).imm
immediate_of text place _ = cast_unsigned w64 (slot_of text place).imm

-- an entry is the instruction at a place: its opcode and registers, the place that it leads to (0
-- where it leads to none), offset and immediate in 64 bits
pub record Decodes (text : List ℕ) (place : ℕ) (entry : Entry) : Type 0 where
  pub kind : instruction_at text place ≡ Some (meaning entry.opcode)
  pub dst : entry.dst ≡ (slot_of text place).dst
  pub src : entry.src ≡ (slot_of text place).src
  pub target : pos entry.target
      ≡ unwrap_or (leads_to (meaning entry.opcode) (slot_of text place) place) (pos 0)
  pub offset : entry.offset ≡ cast_unsigned w64 (slot_of text place).offset
  pub imm : entry.imm ≡ immediate_of text place (meaning entry.opcode)

-- one entry for each slot, and each start's is its instruction
pub record IsDecoded (text : List ℕ) (entries : List Entry) : Type 0 where
  pub count : length entries ≡ slot_count text
  pub each : (place : ℕ) (entry : Entry) → slice_get entries place ≡ Some entry
      → is_start text place ≡ true → Decodes text place entry

-- what holds of the entry of a start: its registers are there, it leads to starts alone, and a
-- system call that it calls is there
pub record Fits (text : List ℕ) (place : ℕ) (entry : Entry) : Type 0 where
  pub dst : entry.dst ≤ 10
  pub src : entry.src ≤ 10
  pub called : meaning entry.opcode ≡ CallRegister → entry.imm ≤ 9
  pub helper : meaning entry.opcode ≡ Call → entry.src ≢ 1 → IsCallNumber entry.imm
  pub target : is_start text entry.target ≡ true
  pub next : goes_on (meaning entry.opcode) ≡ true
      → is_start text (place + slots_taken (meaning entry.opcode)) ≡ true

-- What makes a text be refused: the rows of the table of refusals, each by itself (sBPF, in this
-- project's profile).
use Rattle.std.specs.Prelude.{ℕ, zero, suc, ◌+◌, ◌-◌, ◌%◌, ◌==◌, ◌&&◌, ◌||◌, not, Bool, false, List, length, nat_lt, Option, Some, None, is_none, ℤ, pos, int_lt}
use Rattle.std.specs.Ordering.{int_eq}
use Rattle.sbpf_isa.specs.Fields.{used}
use Rattle.sbpf_isa.specs.Rows.{exit, jump_always, kind_at, load_wide}
use Rattle.sbpf_isa.specs.Slots.{slot_of}
use Rattle.sbpf_isa.specs.declared.slot.Slot.{Slot}
use Rattle.sbpf_isa.specs.declared.rows.Operation.TheVariants.{Div, Mod, Lsh, Rsh, Arsh}
use Rattle.sbpf_isa.specs.declared.rows.Width.{Width}
use Rattle.sbpf_isa.specs.declared.rows.Width.TheVariants.{Bits64, Bits32}
use Rattle.sbpf_isa.specs.declared.rows.Operand.TheVariants.{Immediate}
use Rattle.sbpf_isa.specs.declared.rows.OpKind.{OpKind}
use Rattle.sbpf_isa.specs.declared.rows.OpKind.TheVariants.{Binary, LittleEndian, BigEndian, Call, CallRegister, LoadWide}
use Rattle.sbpf_isa.specs.declared.fields.Fields.{Fields}
use Rattle.sbpf_isa.specs.Calls.{invoke_call}
use Rattle.sbpf_rules.specs.Places.{slot_count, max_slots, is_start_at, leads_to}

-- a number outside low to high
abbrev pub is_outside : ℤ → ℤ → ℤ → Bool
is_outside low high number = int_lt number low || int_lt high number

-- Length: the length is 0, no multiple of 8, or above the most slots
abbrev pub has_bad_length : List ℕ → Bool
has_bad_length text =
    (length text == 0) || not (length text % 8 == 0) || nat_lt max_slots (slot_count text)

-- the slot before is `lddw`
abbrev pub follows_wide : List ℕ → ℕ → Bool
follows_wide text zero = false
follows_wide text (suc before) = (slot_of text before).opcode == load_wide

-- Opcode: no row in the table of instructions, but for opcode 0 directly after `lddw`
abbrev pub lacks_row : List ℕ → ℕ → Bool
lacks_row text place =
    let opcode = (slot_of text place).opcode in
    is_none (kind_at opcode) && not ((opcode == 0) && follows_wide text place)

-- a slot is there whose opcode, registers and offset are 0
abbrev pub is_second_half : List ℕ → ℕ → Bool
is_second_half text place =
    let slot = slot_of text place in
    nat_lt place (slot_count text) && (slot.opcode == 0) && (slot.dst == 0) && (slot.src == 0)
    && int_eq slot.offset (pos 0)

-- HalfWide: `lddw` without such a slot after it
abbrev pub is_half_wide : List ℕ → ℕ → OpKind → Bool
is_half_wide text place LoadWide = not (is_second_half text (place + 1))
is_half_wide text place _ = false

-- Register: a register above 10; `callx` with an immediate outside 0 to 9
abbrev pub calls_bad_register : Slot → OpKind → Bool
calls_bad_register slot CallRegister = is_outside (pos 0) (pos 9) slot.imm
calls_bad_register slot _ = false

abbrev pub has_bad_register : Slot → OpKind → Bool
has_bad_register slot kind =
    nat_lt 10 slot.dst || nat_lt 10 slot.src || calls_bad_register slot kind

-- WritesFrame: classes 0, 1, 4 and 7 with destination 10
abbrev pub writes_frame : Slot → Bool
writes_frame slot =
    let class = slot.opcode % 8 in ((class == 0) || (class == 1) || (class == 4) || (class == 7))
    && (slot.dst == 10)

-- Field: a field that the row does not use is not 0; `le` and `be` with an immediate other than 16,
-- 32 and 64; `call` with a source above 1
abbrev pub has_stray_field : Slot → Fields → Bool
has_stray_field slot row =
    (not row.dst && not (slot.dst == 0)) || (not row.src && not (slot.src == 0)) ||
    (not row.offset && not (int_eq slot.offset (pos 0)))
    || (not row.imm && not (int_eq slot.imm (pos 0)))

abbrev pub is_no_width : ℤ → Bool
is_no_width number =
    not (int_eq number (pos 16) || int_eq number (pos 32) || int_eq number (pos 64))

abbrev pub has_bad_value : Slot → OpKind → Bool
has_bad_value slot LittleEndian = is_no_width slot.imm
has_bad_value slot BigEndian = is_no_width slot.imm
has_bad_value slot Call = nat_lt 1 slot.src
has_bad_value slot _ = false

abbrev pub has_bad_field : Slot → OpKind → Bool
has_bad_field slot kind = has_stray_field slot (used kind) || has_bad_value slot kind

-- ZeroDivisor: div or mod by the immediate 0
abbrev pub divides_by_zero : Slot → OpKind → Bool
divides_by_zero slot (Binary Div width Immediate) = int_eq slot.imm (pos 0)
divides_by_zero slot (Binary Mod width Immediate) = int_eq slot.imm (pos 0)
divides_by_zero slot _ = false

-- Shift: an immediate count outside 0 to 63 in class 7, or 0 to 31 in class 4
abbrev pub most_shift : Width → ℤ
most_shift Bits64 = pos 63
most_shift Bits32 = pos 31

abbrev pub shifts_too_far : Slot → OpKind → Bool
shifts_too_far slot (Binary Lsh width Immediate) = is_outside (pos 0) (most_shift width) slot.imm
shifts_too_far slot (Binary Rsh width Immediate) = is_outside (pos 0) (most_shift width) slot.imm
shifts_too_far slot (Binary Arsh width Immediate) = is_outside (pos 0) (most_shift width) slot.imm
shifts_too_far slot _ = false

-- Jump: a target of a jump, or of a call into the program, that is not a start
abbrev pub is_astray : List ℕ → Option ℤ → Bool
is_astray text None = false
is_astray text (Some target) = not (is_start_at text target)

abbrev pub jumps_astray : List ℕ → ℕ → Slot → OpKind → Bool
jumps_astray text place slot kind = is_astray text (leads_to kind slot place)

-- Helper: a call of a system call whose number is that of none
abbrev pub calls_no_helper : Slot → OpKind → Bool
calls_no_helper slot Call = (slot.src == 0) && is_outside (pos 1) (pos invoke_call) slot.imm
calls_no_helper slot _ = false

-- OpenEnd: the last slot's opcode is neither that of `exit` nor that of `ja`
abbrev pub has_open_end : List ℕ → Bool
has_open_end text =
    let opcode = (slot_of text (slot_count text - 1)).opcode in
    not ((opcode == exit) || (opcode == jump_always))

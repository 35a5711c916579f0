-- The verified texts: the table of refusals, and the first that applies (sBPF, in this project's
-- profile).
use Rattle.std.specs.Prelude.{◌≡◌, ℕ, ◌<◌, Bool, false, List, [], ◌∷◌, ◌++◌, Option, Some, None, if◌then◌else◌}
use Rattle.std.specs.List.{AllByRecursion, flat_map, range_with_len}
use Rattle.sbpf_isa.specs.Rows.{kind_at}
use Rattle.sbpf_isa.specs.Slots.{slot_of}
use Rattle.sbpf_isa.specs.declared.slot.Slot.{Slot}
use Rattle.sbpf_isa.specs.declared.rows.OpKind.{OpKind}
use Rattle.sbpf_rules.specs.Places.{slot_count}
pub use Rattle.sbpf_rules.specs.Table.{is_outside, has_bad_length, follows_wide, lacks_row, is_second_half, is_half_wide, calls_bad_register, has_bad_register, writes_frame, has_stray_field, is_no_width, has_bad_value, has_bad_field, divides_by_zero, most_shift, shifts_too_far, is_astray, jumps_astray, calls_no_helper, has_open_end}
use Rattle.sbpf_verify.specs.declared.fault.VerifyFault.{VerifyFault}
use Rattle.sbpf_verify.specs.declared.fault.VerifyFault.TheVariants.{Length, Opcode, Register, WritesFrame, ZeroDivisor, Shift, HalfWide, Jump, Helper, OpenEnd, Field}

-- a row of the table: whether it applies, and its refusal
pub record Row : Type 0 where
  pub applies : Bool
  pub refusal : VerifyFault

abbrev pub row : Bool → VerifyFault → Row
row applies refusal = record { applies = applies; refusal = refusal }

-- the rows for the instruction of a slot, in their order
abbrev pub instruction_rows : List ℕ → ℕ → Slot → OpKind → List Row
instruction_rows text place slot kind =
    row (is_half_wide text place kind) (HalfWide place) ∷
    row (has_bad_register slot kind) (Register place) ∷
    row (writes_frame slot) (WritesFrame place) ∷
    row (has_bad_field slot kind) (Field place) ∷
    row (divides_by_zero slot kind) (ZeroDivisor place) ∷
    row (shifts_too_far slot kind) (Shift place) ∷
    row (jumps_astray text place slot kind) (Jump place) ∷
    row (calls_no_helper slot kind) (Helper place) ∷ []

abbrev pub rows_of : List ℕ → ℕ → Slot → Option OpKind → List Row
rows_of text place slot None = []
rows_of text place slot (Some kind) = instruction_rows text place slot kind

-- the rows for a slot; of a slot without an instruction, only whether it may be there is asked
unfoldable pub slot_rows : List ℕ → ℕ → List Row
slot_rows text place =
    let slot = slot_of text place in
    row (lacks_row text place) (Opcode place) ∷ rows_of text place slot (kind_at slot.opcode)

-- the whole table: the length first, then slot by slot upwards, and the end last
abbrev pub table : List ℕ → List Row
table text =
    (row (has_bad_length text) Length ∷ [])
    ++ flat_map (slot_rows text) (range_with_len 0 (slot_count text)) ++
    (row (has_open_end text) OpenEnd ∷ [])

-- the refusal of the first row that applies
abbrev pub first_applying : List Row → Option VerifyFault
first_applying [] = None
first_applying (r ∷ rows) = if r.applies then Some r.refusal else first_applying rows

-- the refusal of a text
unfoldable pub unfit : List ℕ → Option VerifyFault
unfit text = first_applying (table text)

-- no row applies
abbrev pub NoneApplies : List Row → Type 0
NoneApplies rows = AllByRecursion (λ r. r.applies ≡ false) rows

-- a text is verified where no row of the table applies: not to its length, not to any slot, not to
-- its end
pub record IsVerified (text : List ℕ) : Type 0 where
  pub len : has_bad_length text ≡ false
  pub slots : (place : ℕ) → place < slot_count text → NoneApplies (slot_rows text place)
  pub end : has_open_end text ≡ false

-- A text and the image that it is assembled to, or its first refusal (the project's own format).
use Rattle.std.specs.Prelude.{◌≡◌, ℕ, ◌+◌, ◌*◌, ◌%◌, ◌==◌, ◌&&◌, ◌||◌, Bool, true, false, List, [], ◌∷◌, ◌++◌, length, take, drop, nat_lt, nat_le, Option, Some, None, Result, Ok, Err, if◌then◌else◌, ℤ, pos, negsuc, ◌-ℤ◌, int_le}
use Rattle.std.specs.List.{list_all}
use Rattle.std.specs.Str.{bytes_eq}
use Rattle.std.specs.Int.{w64, w128, cast_unsigned, to_le_bytes}
use Rattle.spec_base.specs.Reading.{◌>>=◌, ok_if}
use Rattle.sol_base.specs.Accounts.{max_data_len}
use Rattle.sbpf_isa.specs.Rows.{opcode_of}
use Rattle.sbpf_verify.specs.Images.{image_bytes}
use Rattle.sbpf_verify.specs.Places.{max_slots}
use Rattle.sbpf_verify.specs.Verified.{unfit}
use Rattle.sbpf_verify.specs.declared.fault.VerifyFault.{VerifyFault}
use Rattle.sbpf_asm.specs.declared.fault.AsmFault.{AsmFault}
use Rattle.sbpf_asm.specs.declared.fault.AsmFault.TheVariants.{NotText, Syntax, Range, RepeatedLabel, UnknownLabel, TooLong, Unverified, OutOfMemory}
use Rattle.sbpf_asm.specs.declared.instruction.Instruction.{Instruction}
use Rattle.sbpf_asm.specs.Words.{Text}
use Rattle.sbpf_asm.specs.Rows.{Draft, is_wide, leading}
use Rattle.sbpf_asm.specs.Lines.{Item, nothing, label, constants, instruction, item_of, lines_of}

-- the one answer that no text shows
abbrev pub is_asm_memory : AsmFault → Bool
is_asm_memory OutOfMemory = true
is_asm_memory _ = false

-- ---- round one: line by line

-- each byte is a tab or from 0x20 to 0x7e
abbrev pub is_text_byte : ℕ → Bool
is_text_byte b = (b == 9) || (nat_le 32 b && nat_le b 126)

abbrev pub is_text : Text → Bool
is_text line = list_all is_text_byte line

abbrev pub is_within : ℤ → ℤ → ℤ → Bool
is_within low high z = int_le low z && int_le z high

-- -2^15 to 2^15 - 1
abbrev pub fits_offset : ℤ → Bool
fits_offset = is_within (negsuc 32767) (pos 32767)

-- -2^31 to 2^31 - 1
abbrev pub fits_immediate : ℤ → Bool
fits_immediate = is_within (negsuc 2147483647) (pos 2147483647)

-- the number of `lddw`: -2^63 to 2^64 - 1
abbrev pub fits_wide : ℤ → Bool
fits_wide = is_within (negsuc 9223372036854775807) (pos 18446744073709551615)

abbrev pub is_in_range : Instruction → Bool
is_in_range i =
    fits_offset i.offset && (if is_wide i.kind then fits_wide i.imm else fits_immediate i.imm)

-- how many slots an instruction takes
abbrev pub slots_taken : Instruction → ℕ
slots_taken i = if is_wide i.kind then 2 else 1

-- an instruction with the number of its line, and with its place: the number of slots before it
pub record Placed : Type 0 where
  pub line : ℕ
  pub place : ℕ
  pub draft : Draft

-- a label with its place
pub record Label : Type 0 where
  pub name : Text
  pub place : ℕ

-- what the lines of a text have, in their order
pub record Source : Type 0 where
  pub instructions : List Placed
  pub labels : List Label
  pub constants : List ℕ
  pub slots : ℕ

abbrev pub empty : Source
empty = record { instructions = []; labels = []; constants = []; slots = 0 }

-- the place of a label
abbrev pub place_in : Text → List Label → Option ℕ
place_in name [] = None
place_in name (l ∷ labels) = if bytes_eq name l.name then Some l.place else place_in name labels

abbrev pub with_label : ℕ → Source → Text → Option ℕ → Result Source AsmFault
with_label line s name None =
    Ok (record s { labels = s.labels ++ (record { name = name; place = s.slots }) ∷ [] })
with_label line s name (Some place) = Err (RepeatedLabel line)

abbrev pub with_draft : ℕ → Source → Draft → Source
with_draft line s d = record s {
  instructions = s.instructions ++ (record { line = line; place = s.slots; draft = d }) ∷ [];
  slots = s.slots + slots_taken d.instruction;
}

-- the source with what one more line stands for
abbrev pub with_item : ℕ → Source → Option Item → Result Source AsmFault
with_item line s None = Err (Syntax line)
with_item line s (Some nothing) = Ok s
with_item line s (Some (label name)) = with_label line s name (place_in name s.labels)
with_item line s (Some (constants bytes)) = Ok (record s { constants = s.constants ++ bytes })
with_item line s (Some (instruction d)) =
    ok_if (is_in_range d.instruction) (Range line) (with_draft line s d)

-- the source with one more line
abbrev pub with_line : ℕ → Source → Text → Result Source AsmFault
with_line line s text = if is_text text then with_item line s (item_of text) else Err (NotText line)

-- the source with more lines, of which the first has this number
abbrev pub with_lines : ℕ → Source → List Text → Result Source AsmFault
with_lines number s [] = Ok s
with_lines number s (text ∷ texts) =
    with_line number s text >>= (λ next. with_lines (number + 1) next texts)

-- ---- round two: how much there is

abbrev pub is_too_long : Source → Bool
is_too_long s =
    nat_lt max_slots s.slots || nat_lt max_data_len (16 + 8 * s.slots + length s.constants)

-- ---- round three: labels put in

-- an instruction that leads to a label's place
abbrev pub led_to : Placed → Option ℕ → Result Instruction AsmFault
led_to p None = Err (UnknownLabel p.line)
led_to p (Some target) =
    let i = leading (pos target -ℤ pos (p.place + 1)) p.draft.instruction in
    ok_if (is_in_range i) (Range p.line) i

abbrev pub linked : List Label → Placed → Option Text → Result Instruction AsmFault
linked labels p None = Ok p.draft.instruction
linked labels p (Some name) = led_to p (place_in name labels)

-- the lowest bytes of a number, in two's complement, the lowest first
abbrev pub low_bytes : ℤ → List ℕ
low_bytes z = to_le_bytes w64 (cast_unsigned w128 z)

-- the bytes of an instruction (RFC 9669): the slot's immediate is the low half of the number of
-- `lddw`, and the high half stands in a second slot
abbrev pub first_slot : Instruction → List ℕ
first_slot i =
    opcode_of i.kind ∷ (16 * (i.src % 16) + i.dst % 16)
    ∷ (take 2 (low_bytes i.offset) ++ take 4 (low_bytes i.imm))

abbrev pub second_slot : Instruction → List ℕ
second_slot i = if is_wide i.kind then 0 ∷ 0 ∷ 0 ∷ 0 ∷ drop 4 (low_bytes i.imm) else []

abbrev pub instruction_bytes : Instruction → List ℕ
instruction_bytes i = first_slot i ++ second_slot i

-- the slots of instructions, after those that stand already
abbrev pub slots_after : List Label → List ℕ → List Placed → Result (List ℕ) AsmFault
slots_after labels before [] = Ok before
slots_after labels before (p ∷ ps) =
    linked labels p p.draft.target >>= (λ i. slots_after labels (before ++ instruction_bytes i) ps)

-- ---- round four: the text is verified

abbrev pub if_fit : Option VerifyFault → List ℕ → Result (List ℕ) AsmFault
if_fit None image = Ok image
if_fit (Some fault) image = Err (Unverified fault)

abbrev pub verified_image : List ℕ → List ℕ → Result (List ℕ) AsmFault
verified_image text bytes =
    if_fit (unfit text) (image_bytes (record { text = text; constants = bytes }))

-- rounds two to four
abbrev pub image_of : Source → Result (List ℕ) AsmFault
image_of s =
    if is_too_long s then Err TooLong
    else slots_after s.labels [] s.instructions >>= (λ text. verified_image text s.constants)

-- what a text is assembled to, or its first refusal
unfoldable pub assembled : Text → Result (List ℕ) AsmFault
assembled text = with_lines 1 empty (lines_of text) >>= image_of

abbrev pub Assembled : Text → List ℕ → Type 0
Assembled text image = assembled text ≡ Ok image

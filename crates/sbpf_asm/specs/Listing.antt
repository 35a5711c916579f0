-- The text of an image: one line for each instruction, then the constants (the project's own
-- format).
use Rattle.std.specs.Prelude.{◌≡◌, ℕ, ◌+◌, ◌*◌, ◌/◌, ◌^◌, Bool, true, false, List, [], ◌++◌, length, Option, Some, None, Result, Ok, Err, if◌then◌else◌, codes, pos}
use Rattle.std.specs.List.{flat_map, range_with_len}
use Rattle.std.specs.Fork.{slice_chunk}
use Rattle.std.specs.Int.{w32, cast_unsigned}
use Rattle.hex.specs.Hex.{encode_lower}
use Rattle.sbpf_isa.specs.declared.rows.OpKind.{OpKind}
use Rattle.sbpf_isa.specs.Rows.{kind_at}
use Rattle.sbpf_isa.specs.Slots.{slot_of}
use Rattle.sbpf_verify.specs.Images.{ImageParts, image_in}
use Rattle.sbpf_verify.specs.Places.{slot_count}
use Rattle.sbpf_verify.specs.Verified.{unfit}
use Rattle.sbpf_verify.specs.declared.fault.VerifyFault.{VerifyFault}
use Rattle.sbpf_asm.specs.declared.fault.ListFault.{ListFault}
use Rattle.sbpf_asm.specs.declared.fault.ListFault.TheVariants.{BadImage, Unverified, OutOfMemory}
use Rattle.sbpf_asm.specs.declared.instruction.Instruction.{Instruction}
use Rattle.sbpf_asm.specs.Words.{Text}
use Rattle.sbpf_asm.specs.Rows.{Row, is_wide, row_for, row_text}

-- the one answer that no image shows
abbrev pub is_list_memory : ListFault → Bool
is_list_memory OutOfMemory = true
is_list_memory _ = false

-- the number of `lddw`, which is unsigned: its low half stands in its own slot, the high half in
-- the next
abbrev pub wide_number : List ℕ → ℕ → ℕ
wide_number text place =
    cast_unsigned w32 (slot_of text place).imm
    + 2 ^ 32 * cast_unsigned w32 (slot_of text (place + 1)).imm

-- the instruction of a slot, which is of this kind
abbrev pub instruction_of : List ℕ → ℕ → OpKind → Instruction
instruction_of text place kind =
    let slot = slot_of text place in record {
      kind = kind;
      dst = slot.dst;
      src = slot.src;
      offset = slot.offset;
      imm = if is_wide kind then pos (wide_number text place) else slot.imm;
    }

abbrev pub text_by : Option Row → Instruction → Text
text_by None i = []
text_by (Some r) i = row_text r i

-- the line of an instruction
abbrev pub instruction_text : Instruction → Text
instruction_text i = text_by (row_for i) i

-- the line of a slot, or nothing for the second slot of `lddw`
abbrev pub line_of : List ℕ → ℕ → Option OpKind → Text
line_of text place None = []
line_of text place (Some kind) = instruction_text (instruction_of text place kind) ++ codes "\n"

abbrev pub slot_line : List ℕ → ℕ → Text
slot_line text place = line_of text place (kind_at (slot_of text place).opcode)

-- the lines of the instructions
abbrev pub instruction_lines : List ℕ → Text
instruction_lines text = flat_map (slot_line text) (range_with_len 0 (slot_count text))

-- a line of constants
abbrev pub constants_text : List ℕ → Text
constants_text bytes = codes ".const " ++ encode_lower bytes

-- the constants, 32 bytes a line
abbrev pub constant_line : List ℕ → ℕ → Text
constant_line bytes n = constants_text (slice_chunk bytes 32 n) ++ codes "\n"

abbrev pub constant_lines : List ℕ → Text
constant_lines bytes = flat_map (constant_line bytes) (range_with_len 0 ((length bytes + 31) / 32))

-- the whole text of an image
abbrev pub listing : ImageParts → Text
listing image = instruction_lines image.text ++ constant_lines image.constants

abbrev pub listing_if_fit : Option VerifyFault → ImageParts → Result Text ListFault
listing_if_fit None image = Ok (listing image)
listing_if_fit (Some fault) image = Err (Unverified fault)

abbrev pub listed_parts : Option ImageParts → Result Text ListFault
listed_parts None = Err BadImage
listed_parts (Some image) = listing_if_fit (unfit image.text) image

-- what an image is listed as, or the first refusal
unfoldable pub listed : List ℕ → Result Text ListFault
listed bytes = listed_parts (image_in bytes)

-- the text is the listing of the bytes, which are an image with a verified text
abbrev pub Listed : List ℕ → Text → Type 0
Listed bytes text = listed bytes ≡ Ok text

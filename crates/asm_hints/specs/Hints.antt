-- What was wanted of an assembler text that is refused (the project's own format).
use Rattle.std.specs.Prelude.{ℕ, ◌+◌, ◌-◌, ◌==◌, ◌&&◌, ◌||◌, not, Bool, List, [], ◌∷◌, length, take, get_or, nat_eq, nat_le, nat_lt, find, Option, Some, None, is_some, if◌then◌else◌, codes}
use Rattle.std.specs.Str.{bytes_eq}
use Rattle.strsim.specs.Edits.{levenshtein_row}
use Rattle.sbpf_asm.specs.declared.fault.AsmFault.{AsmFault}
use Rattle.sbpf_asm.specs.declared.fault.AsmFault.TheVariants.{NotText, Syntax, Range as OutOfRange, RepeatedLabel, UnknownLabel, TooLong}
use Rattle.sbpf_asm.specs.declared.row.Operand.{Operand}
use Rattle.sbpf_asm.specs.declared.row.Operand.TheVariants.{Destination, Source, RegisterOrNumber, Number, JumpTarget, DestinationPlace, SourcePlace, RegisterNumber}
use Rattle.sbpf_asm.specs.Words.{Text, Cut, cut, is_blank, number_of, ends_with}
use Rattle.sbpf_asm.specs.Operands.{is_name, place_of, register_of, target_of}
use Rattle.sbpf_asm.specs.Rows.{Row, Draft, behind_first, first_of, is_call, is_wide, operands_of, row_of, rows}
use Rattle.sbpf_asm.specs.Lines.{Item, instruction, after_word, code_of, item_of, lines_of, operands_of as texts_of}
use Rattle.sbpf_asm.specs.Assembly.{fits_immediate, fits_offset, fits_wide, is_text_byte, slots_taken}
use Rattle.asm_hints.specs.declared.hint.Limit.{Limit}
use Rattle.asm_hints.specs.declared.hint.Limit.TheVariants.{Offset, Immediate, Wide, Jump, Call}
use Rattle.asm_hints.specs.declared.hint.Hint.{Hint}
use Rattle.asm_hints.specs.declared.hint.Hint.TheVariants.{Byte, Name, Digits, Alone, Mnemonic, Comma, Operand as Another, Missing, End, Range, Repeated, Label, Shorter}

-- ---- operands

-- a text is spelled as an operand of this kind
abbrev pub is_operand : Operand → Text → Bool
is_operand Destination text = is_some (register_of text)
is_operand Source text = is_some (register_of text)
is_operand RegisterOrNumber text = is_some (register_of text) || is_some (number_of text)
is_operand Number text = is_some (number_of text)
is_operand JumpTarget text = is_some (target_of text)
is_operand DestinationPlace text = is_some (place_of text)
is_operand SourcePlace text = is_some (place_of text)
is_operand RegisterNumber text = is_some (register_of text)

-- a text that is none is one up to its first blank, or it is another one
abbrev pub blank_hint : ℕ → Operand → Cut → Hint
blank_hint number wanted parts =
    if is_some parts.rest && is_operand wanted parts.front then Comma number
    else Another number wanted

-- what was wanted of an operand, or None where it is spelled as it should be
abbrev pub operand_hint : ℕ → Operand → Option Text → Option Hint
operand_hint number wanted None = Some (Missing number wanted)
operand_hint number wanted (Some text) =
    if is_operand wanted text then None else Some (blank_hint number wanted (cut is_blank text))

abbrev pub or_else : Option Hint → Option Hint → Option Hint
or_else (Some hint) other = Some hint
or_else None other = other

-- behind the last operand the end of the line is wanted
abbrev pub end_hint : ℕ → List Text → Option Hint
end_hint count [] = None
end_hint count (text ∷ texts) = Some (End count)

-- what was wanted of the first operand that is not spelled as it should be; so many stand before
abbrev pub operands_hint : ℕ → List Operand → List Text → Option Hint
operands_hint before [] texts = end_hint before texts
operands_hint before (wanted ∷ others) texts =
    or_else (operand_hint (before + 1) wanted (first_of texts))
    (operands_hint (before + 1) others (behind_first texts))

-- ---- lines

-- the first word of a line's code
abbrev pub word_of : Text → Text
word_of line = (cut is_blank (code_of line)).front

abbrev pub row_hint : Text → Option Row → List Text → Option Hint
row_hint word None texts = Some (if ends_with word (codes ":") then Alone else Mnemonic)
row_hint word (Some r) texts = operands_hint 0 (operands_of r.kind r.src) texts

abbrev pub word_hint : Text → Text → Option Hint
word_hint word rest =
    if bytes_eq word (codes ".const") then Some Digits
    else row_hint word (row_of word) (texts_of rest)

abbrev pub parts_hint : Cut → Option Hint
parts_hint parts = word_hint parts.front (after_word parts.rest)

abbrev pub name_hint : Text → Option Hint
name_hint name = if is_name name then None else Some Name

abbrev pub code_hint : Text → Option Hint
code_hint code =
    if length code == 0 then None
    else (if ends_with code (codes ":") then name_hint (take (length code - 1) code)
    else parts_hint (cut is_blank code))

-- what was wanted of a line that is spelled as nothing
unfoldable pub line_hint : Text → Option Hint
line_hint line = code_hint (code_of line)

-- the first byte that no line may have, of which so many stand before
abbrev pub byte_hint : ℕ → Text → Option Hint
byte_hint before [] = None
byte_hint before (b ∷ bs) =
    if is_text_byte b then byte_hint (before + 1) bs else Some (Byte (before + 1) b)

-- the range that a number of an instruction is out of; if all that it writes are in theirs, then the
-- distance to its label is not
abbrev pub limit_of : Draft → Limit
limit_of d =
    let i = d.instruction in
    if not (fits_offset i.offset) then Offset
    else (if is_wide i.kind && not (fits_wide i.imm) then Wide
    else (if not (is_wide i.kind) && not (fits_immediate i.imm) then Immediate
    else (if is_call i.kind then Call else Jump)))

abbrev pub range_hint : Option Item → Option Hint
range_hint (Some (instruction d)) = Some (Range (limit_of d))
range_hint _ = None

-- ---- texts

-- a line by its number from 1
abbrev pub line_in : ℕ → List Text → Text
line_in number lines = get_or lines (number - 1) []

-- the number of the first line with this code, of which so many stand before
abbrev pub same_hint : ℕ → Text → List Text → Option Hint
same_hint before code [] = None
same_hint before code (line ∷ lines) =
    if bytes_eq (code_of line) code then Some (Repeated (before + 1))
    else same_hint (before + 1) code lines

-- how many slots what a line stands for takes
abbrev pub slots_of : Option Item → ℕ
slots_of (Some (instruction d)) = slots_taken d.instruction
slots_of _ = 0

-- the number of the line whose instruction has the slot, of which so many lines stand before
abbrev pub line_of_slot : ℕ → ℕ → List Text → Option ℕ
line_of_slot slot before [] = None
line_of_slot slot before (line ∷ lines) =
    let taken = slots_of (item_of line) in
    if nat_lt slot taken then Some (before + 1) else line_of_slot (slot - taken) (before + 1) lines

-- what was wanted where a text is refused
unfoldable pub hint_at : AsmFault → Text → Option Hint
hint_at (NotText n) text = byte_hint 0 (line_in n (lines_of text))
hint_at (Syntax n) text = line_hint (line_in n (lines_of text))
hint_at (OutOfRange n) text = range_hint (item_of (line_in n (lines_of text)))
hint_at (RepeatedLabel n) text = same_hint 0 (code_of (line_in n (lines_of text))) (lines_of text)
hint_at (UnknownLabel n) text = Some Label
hint_at TooLong text = Some Shorter
hint_at _ text = None

-- ---- mnemonics

-- a word is so many edits or fewer away from a row's mnemonic
abbrev pub is_near : ℕ → Text → Row → Bool
is_near most word r = nat_le (levenshtein_row nat_eq r.mnemonic word (length word)) most

abbrev pub row_or : Option Row → Option Row → Option Row
row_or (Some r) other = Some r
row_or None other = other

-- the first row that is one edit away, or else two, of a word of 3 to 16 bytes
unfoldable pub nearest_row : Text → Option Row
nearest_row word =
    if nat_lt 2 (length word) && nat_le (length word) 16
    then row_or (find (is_near 1 word) rows) (find (is_near 2 word) rows) else None

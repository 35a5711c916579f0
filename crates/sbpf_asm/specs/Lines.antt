-- A line of assembler text, and what it stands for (the project's own format).
use Rattle.std.specs.Prelude.{◌≡◌, ℕ, ◌-◌, ◌==◌, ◌&&◌, Bool, List, [], ◌∷◌, length, take, map, nat_lt, Option, Some, None, option_map, Result, Ok, Err, if◌then◌else◌, codes}
use Rattle.std.specs.List.{list_all, slice_split}
use Rattle.std.specs.Str.{bytes_eq}
use Rattle.hex.specs.Hex.{decode_of}
use Rattle.hex.specs.declared.FromHexError.{FromHexError}
use Rattle.sbpf_asm.specs.Words.{Text, Cut, is_blank, is_comma, is_semicolon, is_line_feed, is_hex_digit, trim, cut, text_behind, ends_with}
use Rattle.sbpf_asm.specs.Operands.{is_name}
use Rattle.sbpf_asm.specs.Rows.{Draft, row_of, draft_of}

-- what a line stands for
pub data Item : Type 0 where
  nothing : Item
  label : Text → Item
  constants : List ℕ → Item
  instruction : Draft → Item

-- a line without its comment, and without blanks at both ends
abbrev pub code_of : Text → Text
code_of line = trim (cut is_semicolon line).front

-- the bytes that hexadecimal digits write, two for each
abbrev pub decoded : Result (List ℕ) FromHexError → Option Item
decoded (Ok bytes) = Some (constants bytes)
decoded (Err _) = None

-- one or more pairs of lower case digits
abbrev pub are_digits : Text → Bool
are_digits digits = list_all is_hex_digit digits && nat_lt 0 (length digits)

abbrev pub constants_item : Text → Option Item
constants_item digits = if are_digits digits then decoded (decode_of digits) else None

-- the text after the first word, without blanks at both ends
abbrev pub after_word : Option (ℕ × Text) → Text
after_word rest = trim (text_behind rest)

-- the operands, parted by commas, without the blanks around each
abbrev pub operands_of : Text → List Text
operands_of text = if length text == 0 then [] else map trim (slice_split is_comma text)

abbrev pub word_item : Text → Text → Option Item
word_item word rest =
    if bytes_eq word (codes ".const") then constants_item rest
    else option_map instruction (draft_of (row_of word) (operands_of rest))

abbrev pub parts_item : Cut → Option Item
parts_item parts = word_item parts.front (after_word parts.rest)

abbrev pub label_item : Text → Option Item
label_item name = if is_name name then Some (label name) else None

-- what a line's code stands for, or None where it is spelled as nothing
abbrev pub code_item : Text → Option Item
code_item code =
    if length code == 0 then Some nothing
    else (if ends_with code (codes ":") then label_item (take (length code - 1) code)
    else parts_item (cut is_blank code))

abbrev pub item_of : Text → Option Item
item_of line = code_item (code_of line)

-- the relation of a line to what it stands for
abbrev pub Line : Text → Item → Type 0
Line line item = item_of line ≡ Some item

-- the lines of a text: the parts between line feeds, where a last empty one is none
abbrev pub without_last_empty : List Text → List Text
without_last_empty [] = []
without_last_empty (line ∷ []) = if length line == 0 then [] else line ∷ []
without_last_empty (line ∷ next ∷ lines) = line ∷ without_last_empty (next ∷ lines)

abbrev pub lines_of : Text → List Text
lines_of text = without_last_empty (slice_split is_line_feed text)

-- Answers to wrong arguments, and notes that a terminal may show (the project's own).
use Rattle.std.specs.Prelude.{ℕ, Bool, ◌==◌, ◌+◌, ◌/◌, ◌%◌, ◌&&◌, ◌||◌, not, nat_lt, codes, List, [], ◌∷◌, ◌++◌, if◌then◌else◌}
use Rattle.std.specs.List.{flat_map}
use Rattle.command_parts.specs.declared.answer.Answer.{Answer}
use Rattle.command_words.specs.Shapes.{Text}

-- status 2, a line with what is wrong, and how commands are written
abbrev pub refused : Text → Text → Text → Answer
refused part text usage =
    record { status = 2; output = []; notes = part ++ (codes ": " ++ (text ++ 10 ∷ usage)) }

-- a terminal acts on a byte below a blank, but for the line feed (10), and on delete (127)
abbrev pub is_control : ℕ → Bool
is_control byte = (nat_lt byte 32 && not (byte == 10)) || byte == 127

-- a hexadecimal digit
abbrev pub digit : ℕ → ℕ
digit value = if nat_lt value 10 then 48 + value else 87 + value

-- a byte on which a terminal acts is written `\x` (92, 120) and two hexadecimal digits
abbrev pub escaped : ℕ → List ℕ
escaped byte =
    if is_control byte then 92 ∷ 120 ∷ digit (byte / 16) ∷ digit (byte % 16) ∷ [] else byte ∷ []

-- the notes without such bytes
abbrev pub printable : List ℕ → List ℕ
printable notes = flat_map escaped notes

-- The lines of fields that differ, each with both values (the project's own).
use Rattle.std.specs.Prelude.{ℕ, Bool, true, false, ◌==◌, List, [], ◌++◌, codes, bytes_eq, if◌then◌else◌}
use Rattle.std.specs.Fmt.{decimal}
use Rattle.hex.specs.Hex.{encode_lower}
use Rattle.tx_report.specs.declared.status.Status.{Status}
use Rattle.tx_report.specs.Statuses.{status_text_of, status_bytes_of}

abbrev pub Text : Type 0
Text = List ℕ

-- what a line is of: a name with a number, or with hexadecimal digits
abbrev pub numbered : Text → ℕ → Text
numbered name at = name ++ decimal at

abbrev pub named : Text → Text → Text
named name key = name ++ encode_lower key

-- what it is of, the field, and both values
unfoldable pub field_line : Text → Text → Text → Text → Text
field_line place field left right =
    place ++ codes " " ++ field ++ codes " " ++ left ++ codes " " ++ right ++ codes "\n"

-- a line where the values differ, and else none
abbrev pub text_line : Text → Text → Text → Text → Text
text_line place field left right =
    if bytes_eq left right then [] else field_line place field left right

abbrev pub number_line : Text → Text → ℕ → ℕ → Text
number_line place field left right =
    if left == right then [] else field_line place field (decimal left) (decimal right)

abbrev pub bytes_line : Text → Text → List ℕ → List ℕ → Text
bytes_line place field left right =
    if bytes_eq left right then []
    else field_line place field (encode_lower left) (encode_lower right)

abbrev pub flag_line : Text → Text → Bool → Bool → Text
flag_line place field true false = field_line place field (codes "true") (codes "false")
flag_line place field false true = field_line place field (codes "false") (codes "true")
flag_line place field true true = []
flag_line place field false false = []

-- a status as its text and its bytes
abbrev pub shown_status : Status → Text
shown_status status =
    status_text_of status ++ codes " " ++ encode_lower (status_bytes_of status)

abbrev pub status_line : Text → Status → Status → Text
status_line place left right =
    if bytes_eq (status_bytes_of left) (status_bytes_of right) then []
    else field_line place (codes "status") (shown_status left) (shown_status right)

-- what one of the two alone has
abbrev pub only_in_a : Text → Text
only_in_a place = place ++ codes " only in A\n"

abbrev pub only_in_b : Text → Text
only_in_b place = place ++ codes " only in B\n"

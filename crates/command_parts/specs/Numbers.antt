-- Numbers in words, and their ranges (the project's own).
use Rattle.std.specs.Prelude.{ℕ, ◌&&◌, Bool, List, length, nat_le, nat_lt, Option, Some, None, if◌then◌else◌}
use Rattle.std.specs.List.{list_all}
use Rattle.std.specs.Char.{is_ascii_digit}
use Rattle.std.specs.Str.Parse.{digits_value}

-- the text is a number: 1 to 20 decimal digits
abbrev pub is_number_text : List ℕ → Bool
is_number_text text =
    list_all is_ascii_digit text && (nat_lt 0 (length text) && nat_le (length text) 20)

-- the number from low to high that the text is
abbrev pub number_in : ℕ → ℕ → List ℕ → Option ℕ
number_in low high text =
    let n = digits_value 10 text in
    if is_number_text text && (nat_le low n && nat_le n high) then Some n else None

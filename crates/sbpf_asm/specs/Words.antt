-- Pieces of a line of assembler text: blanks, what stands before the first byte of a kind, numbers
-- (the project's own format).
use Rattle.std.specs.Prelude.{ℕ, ◌==◌, ◌&&◌, ◌||◌, Bool, List, [], ◌∷◌, length, drop, nat_eq, nat_le, nat_lt, Option, Some, None, option_map, if◌then◌else◌, codes, reverse, ℤ, pos, neg_ℤ}
use Rattle.std.specs.List.{list_all, starts_with as slice_starts_with, ends_with as slice_ends_with}
use Rattle.std.specs.Char.{is_ascii_digit}
use Rattle.std.specs.Int.{is_in_range}
use Rattle.std.specs.Str.Parse.{digits_value}

abbrev pub Text : Type 0
Text = List ℕ

abbrev pub starts_with : Text → Text → Bool
starts_with = slice_starts_with nat_eq

abbrev pub ends_with : Text → Text → Bool
ends_with = slice_ends_with nat_eq

-- space and tab
abbrev pub is_blank : ℕ → Bool
is_blank b = (b == 32) || (b == 9)

abbrev pub is_comma : ℕ → Bool
is_comma b = b == 44

abbrev pub is_semicolon : ℕ → Bool
is_semicolon b = b == 59

abbrev pub is_line_feed : ℕ → Bool
is_line_feed b = b == 10

abbrev pub is_sign : ℕ → Bool
is_sign b = (b == 43) || (b == 45)

-- a text without the blanks at its start
abbrev pub without_first_blanks : Text → Text
without_first_blanks [] = []
without_first_blanks (b ∷ bs) = if is_blank b then without_first_blanks bs else b ∷ bs

-- a text without the blanks at its end
abbrev pub without_last_blanks : Text → Text
without_last_blanks text = reverse (without_first_blanks (reverse text))

-- a text without blanks at both ends
abbrev pub trim : Text → Text
trim text = without_last_blanks (without_first_blanks text)

-- a text cut at its first byte of a kind: what stands before, and that byte with what follows
pub record Cut : Type 0 where
  pub front : Text
  pub rest : Option (ℕ × Text)

abbrev pub cut : (ℕ → Bool) → Text → Cut
cut at [] = record { front = []; rest = None }
cut at (b ∷ bs) =
    if at b then record { front = []; rest = Some (b, bs) }
    else record { front = b ∷ (cut at bs).front; rest = (cut at bs).rest }

-- what follows the byte that a text is cut at, or nothing
abbrev pub text_behind : Option (ℕ × Text) → Text
text_behind None = []
text_behind (Some p) = p.1

-- 1 to 20 decimal digits
abbrev pub decimal_of : Text → Option ℕ
decimal_of text =
    if list_all is_ascii_digit text && nat_lt 0 (length text) && nat_le (length text) 20
    then Some (digits_value 10 text) else None

-- 1 to 16 lower case hexadecimal digits
abbrev pub is_hex_digit : ℕ → Bool
is_hex_digit b = is_ascii_digit b || is_in_range 97 102 b

abbrev pub hex_of : Text → Option ℕ
hex_of text =
    if list_all is_hex_digit text && nat_lt 0 (length text) && nat_le (length text) 16
    then Some (digits_value 16 text) else None

-- an unsigned number: decimal digits, or `0x` and hexadecimal ones
abbrev pub unsigned_of : Text → Option ℕ
unsigned_of text = if starts_with text (codes "0x") then hex_of (drop 2 text) else decimal_of text

abbrev pub negative : Option ℕ → Option ℤ
negative = option_map (λ n. neg_ℤ (pos n))

abbrev pub positive : Option ℕ → Option ℤ
positive = option_map (λ n. pos n)

-- a number: an optional `-` before an unsigned one
abbrev pub number_of : Text → Option ℤ
number_of text =
    if starts_with text (codes "-") then negative (unsigned_of (drop 1 text))
    else positive (unsigned_of text)

-- a sign and an unsigned number
abbrev pub signed_of : ℕ → Text → Option ℤ
signed_of sign text =
    if sign == 45 then negative (unsigned_of text) else positive (unsigned_of text)

-- Operands of assembler text: registers, targets, places (the project's own format).
use Rattle.std.specs.Prelude.{ℕ, ◌-◌, ◌==◌, ◌&&◌, ◌||◌, not, Bool, [], ◌∷◌, ◌++◌, length, drop, slice_index, slice_range, nat_le, nat_lt, Option, Some, None, option_map, option_and_then, if◌then◌else◌, codes, ℤ, pos, negsuc}
use Rattle.std.specs.List.{list_all}
use Rattle.std.specs.Char.{is_ascii_digit, is_ascii_alphanumeric}
use Rattle.std.specs.Str.{bytes_eq}
use Rattle.std.specs.Fmt.{decimal, signed_decimal}
use Rattle.sbpf_asm.specs.Words.{Text, Cut, cut, starts_with, ends_with, signed_of, is_sign}
use Rattle.sbpf_asm.specs.declared.operand.Place.{Place}

-- a register: `r0` to `r9`, or `r10`
abbrev pub register_of : Text → Option ℕ
register_of text =
    if bytes_eq text (codes "r10") then Some 10
    else (if (length text == 2) && starts_with text (codes "r")
    && is_ascii_digit (slice_index text 1) then Some (slice_index text 1 - 48) else None)

abbrev pub register_text : ℕ → Text
register_text r = codes "r" ++ decimal r

-- a name: 1 to 64 letters, digits or `_`, and no digit first
abbrev pub is_name_byte : ℕ → Bool
is_name_byte b = is_ascii_alphanumeric b || (b == 95)

abbrev pub is_name : Text → Bool
is_name text =
    list_all is_name_byte text && nat_lt 0 (length text) && nat_le (length text) 64
    && not (is_ascii_digit (slice_index text 0))

-- a target: a label's name, or a sign and an unsigned number
pub data Target : Type 0 where
  label : Text → Target
  offset : ℤ → Target

abbrev pub starts_with_sign : Text → Bool
starts_with_sign text = starts_with text (codes "+") || starts_with text (codes "-")

abbrev pub name_of : Text → Option Target
name_of text = if is_name text then Some (label text) else None

abbrev pub target_of : Text → Option Target
target_of text =
    if starts_with_sign text then option_map offset (signed_of (slice_index text 0) (drop 1 text))
    else name_of text

-- a number that is always written with its sign
abbrev pub signed_text : ℤ → Text
signed_text (pos n) = 43 ∷ decimal n
signed_text (negsuc n) = signed_decimal (negsuc n)

-- a place: `[R]`, `[R+U]` or `[R-U]`
abbrev pub offset_after : Option (ℕ × Text) → Option ℤ
offset_after None = Some (pos 0)
offset_after (Some p) = signed_of p.0 p.1

abbrev pub place_by : Option ℕ → Option ℤ → Option Place
place_by register away =
    option_and_then (λ r. option_map (λ o. record { register = r; offset = o }) away) register

abbrev pub place_within : Cut → Option Place
place_within parts = place_by (register_of parts.front) (offset_after parts.rest)

abbrev pub place_of : Text → Option Place
place_of text =
    if nat_lt 1 (length text) && starts_with text (codes "[") && ends_with text (codes "]")
    then place_within (cut is_sign (slice_range text 1 (length text - 1))) else None

abbrev pub place_text : ℕ → ℤ → Text
place_text r o = 91 ∷ (register_text r ++ (signed_text o ++ 93 ∷ []))

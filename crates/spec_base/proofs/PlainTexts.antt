-- Texts of plain letters: words that are written out, and numbers.
use Rattle.std.proofs.Common.{◌≡◌, ◌+◌, ◌<◌, ◌==◌, ◌/◌, ◌%◌, ◌∷◌, [], ℕ, zero, suc, Bool, true, false, List, decimal, arith, IsUtf8, nat_lt, if◌then◌else◌}
use Rattle.std.specs.Fmt.{digit_glyph, digits, digits_onto}
use Rattle.std.specs.List.{AllByRecursion, list_all}
use Rattle.std.proofs.lemmas.Bool.{and_parts, ltb-true}
use Rattle.std.proofs.lemmas.List.Elements.{All-from_recursion}
use Rattle.std.proofs.lemmas.Str.{IsUtf8-from_ascii}
use Rattle.std.proofs.lemmas.Str.Ascii.{IsAscii-from_all}

abbrev pub Plain : List ℕ → Type 0
Plain bytes = AllByRecursion (λ b. b < 128) bytes

pub plain_text : (bytes : List ℕ) → Plain bytes → IsUtf8 bytes
plain_text bytes plain = IsUtf8-from_ascii bytes (IsAscii-from_all bytes (All-from_recursion (λ b. b < 128) bytes plain))

abbrev pub is_plain : List ℕ → Bool
is_plain bytes = list_all (λ b. nat_lt b 128) bytes

pub plain_if : (bytes : List ℕ) → is_plain bytes ≡ true → Plain bytes
plain_if [] e = tt
plain_if (b ∷ bytes) e = let both = and_parts (nat_lt b 128) (is_plain bytes) e in (ltb-true b 128 both.0, plain_if bytes both.1)

-- words that are written out
pub words_text : (bytes : List ℕ) → is_plain bytes ≡ true → IsUtf8 bytes
words_text bytes e = plain_text bytes (plain_if bytes e)

-- ---- numbers
glyph_plain : (upper : Bool) (d : ℕ) → d < 16 → digit_glyph upper d < 128
glyph_plain upper d few = by_test (nat_lt d 10) upper
  where
    by_test : (b u : Bool) → (if b then 48 + d else (if u then 55 + d else 87 + d)) < 128
    by_test true u = omega (arith, few)
    by_test false true = omega (arith, few)
    by_test false false = omega (arith, few)

onto_plain : (k base : ℕ) (upper : Bool) (n : ℕ) (acc : List ℕ) → ((m : ℕ) → m % base < 16) → Plain acc → Plain (digits_onto k base upper n acc)
onto_plain zero base upper n acc few plain = plain
onto_plain (suc k) base upper n acc few plain = by_test (n / base == 0) (onto_plain k base upper (n / base) (digit_glyph upper (n % base) ∷ acc) few (glyph_plain upper (n % base) (few n), plain))
  where
    by_test : (b : Bool) → Plain (digits_onto k base upper (n / base) (digit_glyph upper (n % base) ∷ acc))
        → Plain (if b then digit_glyph upper (n % base)
        ∷ acc else digits_onto k base upper (n / base) (digit_glyph upper (n % base) ∷ acc))
    by_test true more = (glyph_plain upper (n % base) (few n), plain)
    by_test false more = more

pub decimal_text : (n : ℕ) → IsUtf8 (decimal n)
unfolding digits
decimal_text n = plain_text (decimal n) (onto_plain 64 10 false n [] (λ m. omega arith) tt)

pub hex_text : (n : ℕ) → IsUtf8 (digits 16 false n)
unfolding digits
hex_text n = plain_text (digits 16 false n) (onto_plain 64 16 false n [] (λ m. omega arith) tt)

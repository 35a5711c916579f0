-- Numbers and registers that are written are read again.
use Rattle.std.proofs.Common.{◌≡◌, ◌<◌, ◌≤◌, ◌^◌, ℕ, zero, suc, ◌==◌, ◌&&◌, true, false, [], ◌∷◌, length, Some, refl, arith, rules}
use Rattle.std.specs.Prelude.{ℤ, pos, negsuc}
use Rattle.std.specs.List.{list_all}
use Rattle.std.specs.Char.{is_ascii_digit}
use Rattle.std.specs.Fmt.{decimal, signed_decimal, digits}
use Rattle.std.specs.Str.Parse.{digits_value}
use Rattle.std.proofs.lemmas.Str.Parse.{IsNumeralModel, numerals_by_value}
use Rattle.std.proofs.lemmas.Fmt.{decimal_is_IsNumeral, length-decimal-le}
use Rattle.std.proofs.lemmas.Bool.{and_parts, and_right, lt-ltb, le-leb}
use Rattle.std.proofs.lemmas.Bool.Decides.{nat_tests}
use Rattle.sbpf_asm.specs.Words.{Text, decimal_of, unsigned_of, number_of}
use Rattle.sbpf_asm.specs.Operands.{register_of, register_text}

own : IsNumeralModel (λ ds. list_all is_ascii_digit ds ≡ true) (digits_value 10)
own = numerals_by_value _ (search rules)

-- a numeral of decimal digits
pub record IsNumber (n : ℕ) (text : Text) : Type 0 where
  pub all : list_all is_ascii_digit text ≡ true
  pub some : 0 < length text
  pub few : length text ≤ 20
  pub value : digits_value 10 text ≡ n

pub decimal_number : (n : ℕ) → n < 2 ^ 64 → IsNumber n (decimal n)
decimal_number n h =
    let numeral = decimal_is_IsNumeral n h in
    record {
      all = own.from (decimal n) numeral.0.1;
      some = numeral.0.0;
      few = length-decimal-le 20 n (omega arith) (omega arith) h;
      value = numeral.1;
    }

decimal_back : (n : ℕ) (text : Text) → IsNumber n text → decimal_of text ≡ Some n
decimal_back n text h = rw (h.all, lt-ltb 0 (length text) h.some, le-leb (length text) 20 h.few, h.value) refl

digit_no_x : (c : ℕ) → is_ascii_digit c ≡ true → (120 == c) ≡ false
digit_no_x c h = grind (arith, nat_tests)

digit_no_minus : (c : ℕ) → is_ascii_digit c ≡ true → (45 == c) ≡ false
digit_no_minus c h = grind (arith, nat_tests)

pub unsigned_back : (n : ℕ) (text : Text) → IsNumber n text → unsigned_of text ≡ Some n
unsigned_back n [] h = absurd (omega (arith, h.some))
unsigned_back n (b ∷ []) h = rw (and_right (48 == b) false refl) (decimal_back n (b ∷ []) h)
unsigned_back n (b ∷ c ∷ text) h =
    let second = and_parts (is_ascii_digit c) (list_all is_ascii_digit text) (and_parts (is_ascii_digit b) (list_all is_ascii_digit (c ∷ text)) h.all).1 in
    rw (and_right (48 == b) ((120 == c) && true) (rw (digit_no_x c second.0) refl)) (decimal_back n (b ∷ c ∷ text) h)

number_back_pos : (n : ℕ) (text : Text) → IsNumber n text → number_of text ≡ Some (pos n)
number_back_pos n [] h = absurd (omega (arith, h.some))
number_back_pos n (b ∷ text) h =
    let first = and_parts (is_ascii_digit b) (list_all is_ascii_digit text) h.all in
    rw (digit_no_minus b first.0, unsigned_back n (b ∷ text) h) refl

-- the number fits in 64 bits
abbrev pub Fits64 : ℤ → Type 0
Fits64 (pos n) = n < 2 ^ 64
Fits64 (negsuc n) = n < 2 ^ 63

pub number_back : (z : ℤ) → Fits64 z → number_of (signed_decimal z) ≡ Some z
number_back (pos n) h = number_back_pos n (decimal n) (decimal_number n h)
number_back (negsuc n) h = rw (unsigned_back (suc n) (decimal (suc n)) (decimal_number (suc n) (omega arith))) refl

pub register_back : (r : ℕ) → r ≤ 10 → register_of (register_text r) ≡ Some r
unfolding digits
register_back zero h = refl
register_back (suc zero) h = refl
register_back (suc (suc zero)) h = refl
register_back (suc (suc (suc zero))) h = refl
register_back (suc (suc (suc (suc zero)))) h = refl
register_back (suc (suc (suc (suc (suc zero))))) h = refl
register_back (suc (suc (suc (suc (suc (suc zero)))))) h = refl
register_back (suc (suc (suc (suc (suc (suc (suc zero))))))) h = refl
register_back (suc (suc (suc (suc (suc (suc (suc (suc zero)))))))) h = refl
register_back (suc (suc (suc (suc (suc (suc (suc (suc (suc zero))))))))) h = refl
register_back (suc (suc (suc (suc (suc (suc (suc (suc (suc (suc zero)))))))))) h = refl
register_back (suc (suc (suc (suc (suc (suc (suc (suc (suc (suc (suc r))))))))))) h = absurd (omega arith)

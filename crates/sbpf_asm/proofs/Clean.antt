-- Texts of bytes that part nothing: no blanks, commas, colons or semicolons.
use Rattle.std.proofs.Common.{◌≡◌, ◌<◌, ◌^◌, ℕ, suc, ◌==◌, ◌&&◌, not, Bool, true, false, [], ◌∷◌, ◌++◌, length, refl, ap, arith, append-nil}
use Rattle.std.specs.Prelude.{ℤ, pos, negsuc, nat_lt}
use Rattle.std.specs.List.{list_all}
use Rattle.std.specs.Char.{is_ascii_digit}
use Rattle.std.specs.Fmt.{decimal, signed_decimal}
use Rattle.std.proofs.lemmas.Bool.{and_parts, and_from}
use Rattle.std.proofs.lemmas.Bool.Decides.{nat_tests}
use Rattle.sbpf_asm.specs.Words.{Text, is_blank, is_comma, is_semicolon}
use Rattle.sbpf_asm.specs.Operands.{register_text, signed_text, place_text}
use Rattle.sbpf_asm.proofs.Pieces.{all_append, Framed}
use Rattle.sbpf_asm.proofs.Numbers.{decimal_number, Fits64}

abbrev pub is_plain : ℕ → Bool
is_plain b = nat_lt 32 b && (nat_lt b 127 && (not (b == 44) && (not (b == 58) && not (b == 59))))

pub record Clean (text : Text) : Type 0 where
  pub some : 0 < length text
  pub all : list_all is_plain text ≡ true

pub weaker : (p q : ℕ → Bool) → ((c : ℕ) → p c ≡ true → q c ≡ true) → (text : Text) → list_all p text ≡ true → list_all q text ≡ true
weaker p q each [] h = refl
weaker p q each (c ∷ text) h =
    let parts = and_parts (p c) (list_all p text) h in
    and_from (q c) (list_all q text) (each c parts.0) (weaker p q each text parts.1)

digit_plain : (c : ℕ) → is_ascii_digit c ≡ true → is_plain c ≡ true
digit_plain c h = grind (arith, nat_tests)

plain_no_blank : (c : ℕ) → is_plain c ≡ true → is_blank c ≡ false
plain_no_blank c h = grind (arith, nat_tests)

pub plain_not_blank : (c : ℕ) → is_plain c ≡ true → not (is_blank c) ≡ true
plain_not_blank c h = grind (arith, nat_tests)

pub plain_no_comma : (c : ℕ) → is_plain c ≡ true → not (is_comma c) ≡ true
plain_no_comma c h = grind (arith, nat_tests)

pub plain_no_semicolon : (c : ℕ) → is_plain c ≡ true → not (is_semicolon c) ≡ true
plain_no_semicolon c h = grind (arith, nat_tests)

pub plain_no_colon : (c : ℕ) → is_plain c ≡ true → (58 == c) ≡ false
plain_no_colon c h = grind (arith, nat_tests)

clean_decimal : (n : ℕ) → n < 2 ^ 64 → Clean (decimal n)
clean_decimal n h =
    let number = decimal_number n h in
    record { some = number.some; all = weaker is_ascii_digit is_plain digit_plain (decimal n) number.all }

clean_after : (b : ℕ) (text : Text) → is_plain b ≡ true → Clean text → Clean (b ∷ text)
clean_after b text p h = record { some = omega arith; all = and_from (is_plain b) (list_all is_plain text) p h.all }

pub clean_register : (r : ℕ) → r < 2 ^ 64 → Clean (register_text r)
clean_register r h = clean_after 114 (decimal r) refl (clean_decimal r h)

pub clean_number : (z : ℤ) → Fits64 z → Clean (signed_decimal z)
clean_number (pos n) h = clean_decimal n h
clean_number (negsuc n) h = clean_after 45 (decimal (suc n)) refl (clean_decimal (suc n) (omega arith))

pub clean_signed : (z : ℤ) → Fits64 z → Clean (signed_text z)
clean_signed (pos n) h = clean_after 43 (decimal n) refl (clean_decimal n h)
clean_signed (negsuc n) h = clean_after 45 (decimal (suc n)) refl (clean_decimal (suc n) (omega arith))

pub clean_place : (r : ℕ) (z : ℤ) → r < 2 ^ 64 → Fits64 z → Clean (place_text r z)
clean_place r z h k = record {
  some = omega arith;
  all = all_append is_plain (register_text r) (signed_text z ++ 93 ∷ []) (clean_register r h).all (all_append is_plain (signed_text z) (93 ∷ []) (clean_signed z k).all refl);
}

-- ---- how texts end

pub record Ends (text : Text) : Type 0 where
  pub before : Text
  pub last : ℕ
  pub same : text ≡ before ++ last ∷ []
  pub plain : is_plain last ≡ true

pub ends_after : (b : ℕ) (text : Text) → Ends text → Ends (b ∷ text)
ends_after b text h = record { before = b ∷ h.before; last = h.last; same = ap (λ (t : Text). b ∷ t) h.same; plain = h.plain }

pub ends_append : (xs text : Text) → Ends text → Ends (xs ++ text)
ends_append [] text h = h
ends_append (x ∷ xs) text h = ends_after x (xs ++ text) (ends_append xs text h)

pub clean_ends : (text : Text) → Clean text → Ends text
clean_ends [] h = absurd (omega (arith, h.some))
clean_ends (b ∷ []) h = record { before = []; last = b; same = refl; plain = (and_parts (is_plain b) true h.all).0 }
clean_ends (b ∷ c ∷ text) h = ends_after b (c ∷ text) (clean_ends (c ∷ text) (record { some = omega arith; all = (and_parts (is_plain b) (list_all is_plain (c ∷ text)) h.all).1 }))

-- a text that begins with clean bytes and ends with a plain one
pub framed : (text rest : Text) → Clean text → Ends (text ++ rest) → Framed (text ++ rest)
framed [] rest h e = absurd (omega (arith, h.some))
framed (b ∷ text) rest h e = record {
  first = b;
  after = text ++ rest;
  begins = refl;
  no_blank = plain_no_blank b (and_parts (is_plain b) (list_all is_plain text) h.all).0;
  before = e.before;
  last = e.last;
  ends = e.same;
  no_blank_last = plain_no_blank e.last e.plain;
}

pub clean_framed : (text : Text) → Clean text → Framed text
clean_framed text h = rw append-nil at (framed text [] h (rw append-nil (clean_ends text h)))

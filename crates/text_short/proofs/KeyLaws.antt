-- Digits in the short form: 64 of them are the key, and as many as a key might have are never a name.
use Rattle.std.proofs.Common.{◌≡◌, ◌≤◌, ◌≢◌, ℕ, List, length, None, Result, Ok, Err, true, false, not, refl, ap, arith}
use Rattle.std.specs.Prelude.{bytes_eq, nat_le, codes}
use Rattle.std.specs.Result.{result_ok}
use Rattle.std.proofs.lemmas.Bool.{and_right}
use Rattle.std.proofs.lemmas.Bool.Decides.{nat_tests}
use Rattle.hex.specs.Hex.{decode_sized}
use Rattle.hex.specs.declared.error.FromHexError.{FromHexError}
use Rattle.hex.proofs.HexLemmas.{decode_sized-ok}
use Rattle.json_parts.specs.Parts.{is_digits}
use Rattle.text_short.specs.Names.{is_like_a_key, is_name, program_named, named_key}
use Rattle.text_short.specs.Laws.{DigitsAreTheKey, MistypedKeysAreRefused}
use Rattle.text_short.proofs.MemberNames.{differs}

-- a text of so many characters is none of the programs' names
longer : (text one : List ℕ) → length one ≡ 6 → 16 ≤ length text → bytes_eq one text ≡ false
longer text one six long = differs one text (λ same. absurd (omega (arith, six, long, ap length same)))

no_program : (text : List ℕ) → 16 ≤ length text → program_named text ≡ None
unfolding program_named
no_program text long = rw (longer text (codes "system") refl long, longer text (codes "loader") refl long, longer text (codes "budget") refl long) refl

pub digits_are_the_key : DigitsAreTheKey
unfolding named_key
digits_are_the_key text bytes h = rw (no_program text (omega (arith, decode_sized-ok text 32 bytes h)), h) refl

-- what has not 64 digits is not decoded
undecoded : (text : List ℕ) (r : Result (List ℕ) FromHexError) → decode_sized text 32 ≡ r → length text ≢ 64 → result_ok r ≡ None
undecoded text (Ok bytes) h other = absurd (other (decode_sized-ok text 32 bytes h))
undecoded text (Err e) h other = refl

no_name : (text : List ℕ) → is_digits text ≡ true → 16 ≤ length text → is_name text ≡ false
no_name text digits long =
    let many : nat_le 16 (length text) ≡ true = grind (arith, nat_tests) in
    let like : not (is_like_a_key text) ≡ false = rw (many, digits) refl in
    and_right _ (not (is_like_a_key text)) like

pub mistyped_keys_are_refused : MistypedKeysAreRefused
unfolding named_key
mistyped_keys_are_refused text digits long other =
    rw (no_program text long, undecoded text (decode_sized text 32) refl other, no_name text digits long, digits) refl

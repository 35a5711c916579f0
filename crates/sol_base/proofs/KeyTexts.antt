-- The digits of keys are texts.
use Rattle.std.proofs.Common.{◌<◌, ◌/◌, ◌%◌, ◌∷◌, [], ℕ, zero, suc, List, refl, arith, IsUtf8}
use Rattle.std.specs.Prelude.{slice_index}
use Rattle.hex.specs.Hex.{encode_lower, encode_with, lower_digits}
use Rattle.spec_base.proofs.PlainTexts.{Plain, plain_if, plain_text}

digit_plain : (table : List ℕ) (k : ℕ) → Plain table → slice_index table k < 128
digit_plain [] k plain = omega arith
digit_plain (d ∷ table) zero plain = plain.0
digit_plain (d ∷ table) (suc k) plain = digit_plain table k plain.1

encoded_plain : (table bytes : List ℕ) → Plain table → Plain (encode_with table bytes)
unfolding encode_with
encoded_plain table [] plain = tt
encoded_plain table (b ∷ bytes) plain = (digit_plain table (b / 16) plain, (digit_plain table (b % 16) plain, encoded_plain table bytes plain))

pub encoded_text : (bytes : List ℕ) → IsUtf8 (encode_lower bytes)
encoded_text bytes = plain_text (encode_lower bytes) (encoded_plain lower_digits bytes (plain_if lower_digits refl))

-- The parts of a word around its first `=`, and arguments that are none.
use Rattle.std.proofs.Common.{◌≡◌, ◌<◌, length, Bool, true, false, Some, None, refl, arith}
use Rattle.std.specs.List.{position_or_len, before_first, after_first}
use Rattle.std.proofs.lemmas.Bool.Decides.{nat_tests}
use Rattle.command_words.specs.Shapes.{Text}
use Rattle.command_words.specs.Arguments.{has_equals, is_equals, parted}

-- a word without `=`
pub parted_none : (word : Text) → position_or_len is_equals word ≡ length word → parted word ≡ (word, None)
parted_none word none = by_case (has_equals word) refl
  where
    by_case : (b : Bool) → has_equals word ≡ b → parted word ≡ (word, None)
    by_case true has = absurd (grind (arith, nat_tests))
    by_case false has = rw has refl

-- a word with `=`, and what stands before and behind the first one
pub parted_at : (word name value : Text) → position_or_len is_equals word < length word
    → name ≡ before_first is_equals word → value ≡ after_first is_equals word
    → parted word ≡ (name, Some value)
parted_at word name value inside before after = by_case (has_equals word) refl
  where
    by_case : (b : Bool) → has_equals word ≡ b → parted word ≡ (name, Some value)
    by_case true has = rw (has, before, after) refl
    by_case false has = absurd (grind (arith, nat_tests))

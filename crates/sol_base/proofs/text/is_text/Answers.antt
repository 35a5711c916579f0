use Rattle.std.proofs.Common.{◌≡◌, ℕ, List, Bool, true, false, refl, sym}
use Rattle.std.specs.Str.{IsUtf8, is_utf8}
use Rattle.std.proofs.lemmas.Str.{IsUtf8-from_is_utf8, is_utf8-from_IsUtf8}
use Rattle.sol_base.proofs.text.is_text.Goals as goal

not_text : (bytes : List ℕ) → ¬ (IsUtf8 bytes) → false ≡ is_utf8 bytes
not_text bytes other = by_test (is_utf8 bytes) (IsUtf8-from_is_utf8 bytes)
  where
    by_test : (test : Bool) → (test ≡ true → IsUtf8 bytes) → false ≡ test
    by_test true found = absurd (other (found refl))
    by_test false found = refl

pub returns-in-Ok : goal.returns-in-Ok
returns-in-Ok c = sym (is_utf8-from_IsUtf8 _ c.in-Ok.ensures.cases.1)

pub returns-in-Err : goal.returns-in-Err
returns-in-Err c = not_text _ c.in-Err.ensures.cases.0

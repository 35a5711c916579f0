use Rattle.std.proofs.Common.{◌≡◌, arith, refl, true, false, Bool, ℕ, List}
use Rattle.std.specs.Str.{IsUtf8, is_utf8}
use Rattle.std.proofs.lemmas.Grind.{common_steps}
use Rattle.std.proofs.lemmas.Str.{IsUtf8-from_is_utf8, is_utf8-from_IsUtf8}
use Rattle.system_prog.specs.Instructions.{text_at}
use Rattle.system_prog.proofs.instruction.read_text.Goals as goal

not_text : (text : List ℕ) → ¬ (IsUtf8 text) → is_utf8 text ≡ false
not_text text other = by_test (is_utf8 text) (IsUtf8-from_is_utf8 text)
  where
    by_test : (test : Bool) → (test ≡ true → IsUtf8 text) → test ≡ false
    by_test true found = absurd (other (found refl))
    by_test false found = refl

pub returns-in-Ok : goal.returns-in-Ok
unfolding text_at
returns-in-Ok c =
    let is : is_utf8 c.in_ok-text.text.now ≡ true = is_utf8-from_IsUtf8 _ c.in-Ok.ensures.cases.1 in
    grind (arith, common_steps, is)

pub returns-in-Err : goal.returns-in-Err
unfolding text_at
returns-in-Err c =
    let is : is_utf8 c.in_ok-text.text.now ≡ false = not_text _ c.in-Err.ensures.cases.0 in
    grind (arith, common_steps, is)

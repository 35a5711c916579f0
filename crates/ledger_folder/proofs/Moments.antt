-- The moments of a call: what was done of it before a crash is an end of what it did.
use Rattle.std.proofs.Common.{◌≡◌, List, [], ◌∷◌, ◌++◌, sym, ◌∙◌, ap, subst, append_assoc}
use Rattle.std.proofs.lemmas.List.{append_cancel_right}
use Rattle.ledger_folder.specs.declared.event.Event.{Event}

-- P holds after each of these events, and before them
abbrev pub AtEach : (List Event → Type 0) → List Event → List Event → Type 0
AtEach P [] old = P old
AtEach P (event ∷ done) old = P (event ∷ (done ++ old)) × AtEach P done old

at_end : (P : List Event → Type 0) (done old : List Event) → AtEach P done old → P (done ++ old)
at_end P [] old each = each
at_end P (event ∷ done) old each = each.0

rest_of : {X : Type 0} (x y : X) (xs ys : List X) → x ∷ xs ≡ y ∷ ys → xs ≡ ys
rest_of x y xs ys h = cc

at_part : (P : List Event → Type 0) (old done later since : List Event) → done ≡ later ++ since → AtEach P done old → P (since ++ old)
at_part P old done [] since h each = at_end P since old (subst (λ (l : List Event). AtEach P l old) h each)
at_part P old [] (event ∷ later) since h each = absurd (cc)
at_part P old (first ∷ done) (event ∷ later) since h each = at_part P old done later since (rest_of first event done (later ++ since) h) each.1

-- so it holds at each moment
pub at_moment : (P : List Event → Type 0) (old done later since : List Event) → AtEach P done old → done ++ old ≡ later ++ since ++ old → P (since ++ old)
at_moment P old done later since each h = at_part P old done later since (append_cancel_right done (later ++ since) old h) each

-- what a call did, with P at each moment of it
pub record Done (P : List Event → Type 0) (old new : List Event) : Type 0 where
  pub done : List Event
  pub each : AtEach P done old
  pub is : new ≡ done ++ old

pub at_each_moment : (P : List Event → Type 0) (old new later since : List Event) → Done P old new → new ≡ later ++ since ++ old → P (since ++ old)
at_each_moment P old new later since d h = at_moment P old d.done later since d.each (sym d.is ∙ h)

both : (P : List Event → Type 0) (old done base : List Event) → AtEach P done (base ++ old) → AtEach P base old → AtEach P (done ++ base) old
both P old [] base first second = second
both P old (event ∷ done) base first second = (subst (λ (l : List Event). P (event ∷ l)) (sym (append_assoc done base old)) first.0, both P old done base first.1 second)

-- one call after another
pub Done-then : (P : List Event → Type 0) (old mid new : List Event) → Done P old mid → Done P mid new → Done P old new
Done-then P old mid new first second = record {
  done = second.done ++ first.done;
  each = both P old second.done first.done (subst (λ (l : List Event). AtEach P second.done l) first.is second.each) first.each;
  is = second.is ∙ ap (λ (l : List Event). second.done ++ l) first.is ∙ sym (append_assoc second.done first.done old);
}

-- Lanes that committed nothing but behind their gate, after each call of a desk.
use Rattle.std.proofs.Common.{◌≡◌, ℕ, List, [], ◌∷◌, ◌++◌, Bool, true, false, ◌||◌, eqb, refl, sym, ap, subst, ◌∙◌, arith}
use Rattle.std.proofs.lemmas.Bool.{eqb-true}
use Rattle.bank_law.specs.declared.event.Event.{Event}
use Rattle.bank_law.specs.History.{PassView, own}
use Rattle.bank_core.specs.Lanes.{is_one_of}
use Rattle.bank_core.specs.Desks.{SeesNoneOf}
use Rattle.bank_core.proofs.Lanes.{same_own, is_one_within}
use Rattle.bank_lanes.specs.Gates.{AreBehind}
use Rattle.bank_lanes.specs.Passes.{CommitBehind, StaysBehind}

pub one_of_two : (b c : Bool) (P : Type 0) → (b || c) ≡ true → (b ≡ true → P) → (c ≡ true → P) → P
one_of_two true c P is f g = f refl
one_of_two false c P is f g = g is

module _ (gate : ℕ → ℕ → Type 0) where
  none_behind : (events : List Event) → events ≡ [] → AreBehind gate events
  none_behind events none = subst (AreBehind gate) (sym none) (λ k d l. absurd (omega (arith, l)))

  -- one call, and another
  pub behind_then : (ls ms ns : List ℕ) (u v w : PassView) → StaysBehind gate ls u ms v → StaysBehind gate ms v ns w → StaysBehind gate ls u ns w
  behind_then ls ms ns u v w f g l one was = g l one (λ there. f l there was)

  -- no event of its lanes
  pub behind_none : (ls ms : List ℕ) (v w : PassView) → ms ≡ ls → SeesNoneOf ls v w → StaysBehind gate ls v ms w
  behind_none ls ms v w is same l one was =
      let here = subst (λ (x : List ℕ). is_one_of x l ≡ true) is one in
      subst (AreBehind gate) (sym (same_own ls v.seen w.seen l same here)) (was here)

  -- a new pass
  pub behind_new : (ls : List ℕ) (w : PassView) → ls ≡ w.lane ∷ [] → own w.seen w.lane ≡ [] → CommitBehind gate ls w
  behind_new ls w is none l one =
      one_of_two (eqb w.lane l) false (AreBehind gate (own w.seen l)) (subst (λ (x : List ℕ). is_one_of x l ≡ true) is one)
      (λ same. none_behind (own w.seen l) (ap (λ (lane : ℕ). own w.seen lane) (sym (eqb-true w.lane l same)) ∙ none))
      (λ bad. absurd (cc bad))

  -- a pass into which one was joined of which that holds
  pub behind_both : (ls ms ns : List ℕ) (v other w : PassView) → ns ≡ ms ++ ls → SeesNoneOf ls v w → SeesNoneOf ms other w → CommitBehind gate ms other → StaysBehind gate ls v ns w
  behind_both ls ms ns v other w is mine theirs behind l one was =
      one_of_two (is_one_of ms l) (is_one_of ls l) (AreBehind gate (own w.seen l)) (sym (is_one_within l ms ls) ∙ subst (λ (x : List ℕ). is_one_of x l ≡ true) is one)
      (λ there. subst (AreBehind gate) (sym (same_own ms other.seen w.seen l theirs there)) (behind l there))
      (λ here. subst (AreBehind gate) (sym (same_own ls v.seen w.seen l mine here)) (was here))

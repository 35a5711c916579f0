-- Lanes that hold nothing, after each call of a desk.
use Rattle.std.proofs.Common.{◌≡◌, ℕ, List, [], ◌∷◌, ◌++◌, Bool, true, false, eqb, None, inl, inr, refl, sym, ap, subst, ◌∙◌}
use Rattle.std.proofs.lemmas.Bool.{cases_eq, eqb-true}
use base.Growing.{prefix_refl, prefix_trans}
use Rattle.bank_law.specs.History.{PassView, own, holds, returns}
use Rattle.bank_core.specs.Lanes.{is_one_of}
use Rattle.bank_core.specs.Desks.{Stays, TookIn, SeesNoneOf}
use Rattle.bank_core.proofs.Lanes.{part_keeps, same_own, is_one_after, is_one_within}
use Rattle.bank_lanes.specs.Gates.{AreBehind}
use Rattle.bank_lanes.specs.Groups.{StepsOn}
use Rattle.bank_lanes.specs.Passes.{AreItsOwn, CommitBehind, HoldsNothing, KeepsTo, StaysFree, Widened}
use Rattle.bank_lanes.proofs.Behind.{one_of_two, behind_both, behind_none, behind_then}

-- one call, and another
pub keeps_then : (gate : ℕ → ℕ → Type 0) (mine ls ms ns : List ℕ) (u v w : PassView) → KeepsTo gate mine ls u ms v → KeepsTo gate mine ms v ns w → KeepsTo gate mine ls u ns w
keeps_then gate mine ls ms ns u v w one two = record {
  lane = two.lane ∙ one.lane;
  lanes = two.lanes ∙ one.lanes;
  longer = prefix_trans u.seen v.seen w.seen one.longer two.longer;
  others = λ l there not. two.others l (subst (λ (x : List ℕ). is_one_of x l ≡ true) (sym one.lanes) there) not ∙ one.others l there not;
  behind = behind_then gate ls ms ns u v w one.behind two.behind;
}

-- none, one that adds nothing of the lanes, and one of one lane
pub keeps_all : (gate : ℕ → ℕ → Type 0) (mine ls : List ℕ) (v : PassView) → KeepsTo gate mine ls v ls v
keeps_all gate mine ls v = record { lane = refl; lanes = refl; longer = prefix_refl v.seen; others = λ l there not. refl; behind = λ l one was. was one }

pub keeps_to : (gate : ℕ → ℕ → Type 0) (mine ls ms : List ℕ) (v w : PassView) → ms ≡ ls → Stays v w → SeesNoneOf ls v w → KeepsTo gate mine ls v ms w
keeps_to gate mine ls ms v w is stays same = record {
  lane = stays.lane;
  lanes = is;
  longer = stays.longer;
  others = λ l one not. same_own ls v.seen w.seen l same one;
  behind = behind_none gate ls ms v w is same;
}

pub keeps_step : (gate : ℕ → ℕ → Type 0) (mine ls ms : List ℕ) (lane : ℕ) (v w : PassView) → ms ≡ ls → is_one_of mine lane ≡ true → StepsOn gate lane v w → KeepsTo gate mine ls v ms w
keeps_step gate mine ls ms lane v w is there step = record {
  lane = step.lane_is;
  lanes = is;
  longer = step.grew.longer;
  others = λ l one not. step.grew.others l (λ e. let t : is_one_of mine l ≡ true = subst (λ (n : ℕ). is_one_of mine n ≡ true) e there in absurd (cc (t, not)));
  behind = λ l one was.
      let before = was (subst (λ (x : List ℕ). is_one_of x l ≡ true) is one) in
      elim (cases_eq lane l) [
        | inl same ↦ subst (λ (n : ℕ). AreBehind gate (own w.seen n)) same (step.behind (subst (λ (n : ℕ). AreBehind gate (own v.seen n)) (sym same) before))
        | inr other ↦ subst (AreBehind gate) (sym (step.grew.others l other)) before
      ];
}

-- where of its other lanes nothing is added, and these hold nothing, none of its lanes holds more
pub keeps_free : (gate : ℕ → ℕ → Type 0) (mine ls ms : List ℕ) (v w : PassView) → KeepsTo gate mine ls v ms w → ((l : ℕ) → is_one_of mine l ≡ true → holds (own w.seen l) ≡ None) → StaysFree ls v ms w
keeps_free gate mine ls ms v w keeps free l one was = by_case (is_one_of mine l) refl
  where
    by_case : (b : Bool) → is_one_of mine l ≡ b → holds (own w.seen l) ≡ None
    by_case true e = free l e
    by_case false e = let here = subst (λ (x : List ℕ). is_one_of x l ≡ true) keeps.lanes one in ap holds (keeps.others l here e) ∙ was here

-- a lane that gave nothing back has still given nothing back
pub keeps_once : (gate : ℕ → ℕ → Type 0) (mine ls ms : List ℕ) (v w : PassView) (l : ℕ)
    → KeepsTo gate mine ls v ms w → is_one_of ls l ≡ true → returns (own v.seen l) ≡ 0
    → (is_one_of mine l ≡ true → returns (own w.seen l) ≡ 0) → returns (own w.seen l) ≡ 0
keeps_once gate mine ls ms v w l keeps there none one = by_case (is_one_of mine l) refl
  where
    by_case : (b : Bool) → is_one_of mine l ≡ b → returns (own w.seen l) ≡ 0
    by_case true e = one e
    by_case false e = ap returns (keeps.others l there e) ∙ none

-- one call, and another
pub free_then : (ls ms ns : List ℕ) (u v w : PassView) → StaysFree ls u ms v → StaysFree ms v ns w → StaysFree ls u ns w
free_then ls ms ns u v w f g l one was = g l one (λ there. f l there was)

-- no event of its lanes
pub free_none : (ls ms : List ℕ) (v w : PassView) → ms ≡ ls → SeesNoneOf ls v w → StaysFree ls v ms w
free_none ls ms v w is same l one was = let here = subst (λ (x : List ℕ). is_one_of x l ≡ true) is one in ap holds (same_own ls v.seen w.seen l same here) ∙ was here

-- a new pass
pub free_new : (ls : List ℕ) (w : PassView) → ls ≡ w.lane ∷ [] → own w.seen w.lane ≡ [] → HoldsNothing ls w
free_new ls w is none l one =
    one_of_two (eqb w.lane l) false (holds (own w.seen l) ≡ None) (subst (λ (x : List ℕ). is_one_of x l ≡ true) is one)
    (λ same. ap (λ (lane : ℕ). holds (own w.seen lane)) (sym (eqb-true w.lane l same)) ∙ ap holds none)
    (λ bad. absurd (cc bad))

-- a pass into which one was joined that held nothing
pub free_both : (ls ms ns : List ℕ) (v other w : PassView) → ns ≡ ms ++ ls → SeesNoneOf ls v w → SeesNoneOf ms other w → HoldsNothing ms other → StaysFree ls v ns w
free_both ls ms ns v other w is mine theirs free l one was =
    one_of_two (is_one_of ms l) (is_one_of ls l) (holds (own w.seen l) ≡ None) (sym (is_one_within l ms ls) ∙ subst (λ (x : List ℕ). is_one_of x l ≡ true) is one)
    (λ there. ap holds (same_own ms other.seen w.seen l theirs there) ∙ free l there)
    (λ here. ap holds (same_own ls v.seen w.seen l mine here) ∙ was here)

pub widened_then : (gate : ℕ → ℕ → Type 0) (ls ms ns : List ℕ) (u v w : PassView) → Widened gate ls u ms v → Widened gate ms v ns w → Widened gate ls u ns w
widened_then gate ls ms ns u v w one two = record {
  lane = two.lane ∙ one.lane;
  longer = prefix_trans u.seen v.seen w.seen one.longer two.longer;
  mine = two.mine ∙ one.mine;
  more = λ l there. two.more l (one.more l there);
  each = part_keeps ls ms v.seen w.seen one.more two.each ∙ one.each;
  free = free_then ls ms ns u v w one.free two.free;
  behind = behind_then gate ls ms ns u v w one.behind two.behind;
}

pub widened_split : (gate : ℕ → ℕ → Type 0) (ls ms : List ℕ) (v w : PassView) → ms ≡ ls → w.mine ≡ v.mine → Stays v w → SeesNoneOf ls v w → Widened gate ls v ms w
widened_split gate ls ms v w is same stays each = record {
  lane = stays.lane;
  longer = stays.longer;
  mine = same;
  more = λ l one. subst (λ (x : List ℕ). is_one_of x l ≡ true) (sym is) one;
  each = each;
  free = free_none ls ms v w is each;
  behind = behind_none gate ls ms v w is each;
}

pub widened_join : (gate : ℕ → ℕ → Type 0) (ls ms ns : List ℕ) (v other w : PassView) → ns ≡ ms ++ ls
    → Stays v w → TookIn v other w → SeesNoneOf ls v w → SeesNoneOf ms other w → HoldsNothing ms other
    → CommitBehind gate ms other → Widened gate ls v ns w
widened_join gate ls ms ns v other w is stays took each each_other free behind = record {
  lane = stays.lane;
  longer = stays.longer;
  mine = took.mine;
  more = λ l one. subst (λ (x : List ℕ). is_one_of x l ≡ true) (sym is) (is_one_after l ms ls one);
  each = each;
  free = free_both ls ms ns v other w is each each_other free;
  behind = behind_both gate ls ms ns v other w is each each_other behind;
}

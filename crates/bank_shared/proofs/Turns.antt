-- What a turn does to its pass.
use Rattle.std.proofs.Common.{◌≡◌, ℕ, ◌+◌, ◌-◌, ◌<◌, ◌≤◌, List, [], ◌∷◌, ◌++◌, None, Bool, true, false, ◌||◌, max, cond, eqb, eq-eqb, refl, sym, ap, ap₂, ◌∙◌, subst, subst₂, arith, le_refl, All, append-nil}
use Rattle.std.specs.Prelude.{⊤}
use Rattle.std.specs.List.{AllPass, AllByRecursion, range_with_len}
use Rattle.std.proofs.lemmas.Bool.{cond-true}
use Rattle.std.proofs.lemmas.List.Elements.{filter-append, All-head, All-cons}
use mathlib.Core.List.{IsPrefix}
use Rattle.atomic_table.specs.Table.{Me}
use Rattle.bank_law.specs.declared.event.Event.{Event}
use Rattle.bank_law.specs.declared.event.EventKind.{EventKind}
use Rattle.bank_law.specs.declared.event.EventKind.TheVariants.{Grant}
use Rattle.bank_law.specs.Job.{Job}
use Rattle.bank_law.specs.Machine.{with_event}
use Rattle.bank_law.proofs.Histories.{own_none}
use Rattle.bank_core.specs.declared.origin.Origin.{Origin}
use Rattle.bank_core.specs.declared.loan.Take.{Take}
use Rattle.bank_core.specs.declared.loan.Take.TheVariants as take
use Rattle.bank_core.specs.Desks.{before_last}
use Rattle.bank_core.specs.Origins.{IsLeastReadyAfter, AllDoneAfter}
use Rattle.bank_core.specs.Takes.{MatchTake, IsNotNowAfter, ReadsLeastAfter}
use Rattle.bank_core.proofs.Lanes.{is_one_after, before_last_is}
use Rattle.bank_shared.specs.declared.view.View.{View}
use Rattle.bank_shared.specs.declared.view.Part.{Part}
use Rattle.bank_shared.specs.History.{own, own_of, is_one_of, Covers, GoesOn}
use Rattle.bank_shared.specs.Rule.{part_lanes, lanes_of, stands, new_view, joined_view, Knows}
use Rattle.bank_shared.specs.Plays.{holding, done, caught_up, HasTurn}
use Rattle.bank_shared.specs.Passes.{Adds, Sees, Keeps, Begins, OnlySees, Learns}
use Rattle.bank_shared.proofs.Sums.{sum_append}
use Rattle.bank_shared.proofs.Owns.{prefix_more, none_of, one_stands, own_of_all, covered}

-- events of one lane
abbrev pub AreOf : ℕ → List Event → Type 0
AreOf l es = AllByRecursion (λ e. e.lane ≡ l) es

pub theirs : (lanes : List ℕ) (l : ℕ) (es : List Event) → is_one_of lanes l ≡ true → AreOf l es → AllPass (λ e. is_one_of lanes e.lane) es
theirs lanes l [] lane all = λ i d lt. absurd (omega arith)
theirs lanes l (e ∷ es) lane all = All-cons (λ (x : Event). is_one_of lanes x.lane ≡ true) e es (ap (is_one_of lanes) all.0 ∙ lane) (theirs lanes l es lane all.1)

own_all : (l : ℕ) (es : List Event) → AreOf l es → own es l ≡ es
own_all l [] all = refl
own_all l (e ∷ es) all = cond-true (eqb e.lane l) (e ∷ own es l) (own es l) (eq-eqb e.lane l all.0) ∙ ap (λ (xs : List Event). e ∷ xs) (own_all l es all.1)

-- an event more, under equal names
pub event_is : (was old new : List Event) (kind : EventKind) (l lane p position : ℕ)
    → new ≡ with_event was kind l p → was ≡ old → l ≡ lane → p ≡ position
    → new ≡ old ++ record { kind = kind; lane = lane; position = position } ∷ []
event_is was old new kind l lane p position grown is same here = grown ∙ (ap (λ (h : List Event). with_event h kind l p) is ∙ ap₂ (λ (x y : ℕ). with_event old kind x y) same here)

-- the history goes on by them
goes_on : (lanes : List ℕ) (l : ℕ) (before es after : List Event) → is_one_of lanes l ≡ true → AreOf l es → after ≡ before ++ es → GoesOn lanes before after
goes_on lanes l before es after lane all is = record { more = es; after_is = is; theirs = theirs lanes l es lane all }

module _ {O : Type 0} where
  pub lanes_are : (v : View O) → v.joined ≡ [] → lanes_of v ≡ v.lanes
  lanes_are v no_parts = ap (λ (x : List Part). part_lanes x ++ v.lanes) no_parts

  -- a pass that gives up a turn in which no lane was drawn
  module _ (o : O) (h new : List Event) (d l : ℕ) (es : List Event) (v w : View O) (k : Knows o h d v) (no_parts : v.joined ≡ []) (lane : is_one_of v.lanes l ≡ true)
      (mine : AreOf l es) (is : new ≡ h ++ es) (last : w ≡ done (holding v h d) new d) where
    seen : w.seen ≡ h ++ es
    seen = ap (λ (u : View O). u.seen) last ∙ is

    pub turn_adds : Adds v l es w
    turn_adds = record {
      before = h;
      seen = seen;
      longer = k.mine.longer;
      mine = ap (λ (xs : List Event). own xs l) seen
          ∙ (filter-append (λ (e : Event). eqb e.lane l) h es
          ∙ (ap (λ (xs : List Event). own h l ++ xs) (own_all l es mine)
          ∙ ap (λ (xs : List Event). xs ++ es) (covered h v.lanes v.seen l k.mine lane)));
      all = ap (λ (xs : List Event). own_of xs v.lanes) seen
          ∙ (filter-append (λ (e : Event). is_one_of v.lanes e.lane) h es
          ∙ (ap (λ (xs : List Event). own_of h v.lanes ++ xs) (own_of_all v.lanes es (theirs v.lanes l es lane mine)) ∙ ap (λ (xs : List Event). xs ++ es) k.mine.own));
      lanes = ap (λ (u : View O). u.lanes) last ∙ (ap (λ (n : ℕ). range_with_len d n ++ lanes_of v) (let none : d - d ≡ 0 = omega arith in none) ∙ lanes_are v no_parts);
      turn = ap (λ (u : View O). u.turns) last;
    }

    pub turn_keeps : Keeps v w
    turn_keeps = record {
      origin = ap (λ (u : View O). u.origin) last;
      longer = subst (IsPrefix v.seen) (sym seen) (prefix_more v.seen h es k.mine.longer);
      drawn = (let n = k.drawn in let m : w.drawn ≡ d = ap (λ (u : View O). u.drawn) last in omega arith);
    }

  -- what the desk asks for then
  pub has_turn : {S : Type 0} (me : Me S (View O)) (h new : List Event) (d l : ℕ) (es : List Event) (v : View O)
      (cs : List (ℕ × S)) → me ≡ (holding v h d, cs) → v.joined ≡ [] → is_one_of v.lanes l ≡ true → AreOf l es
      → new ≡ h ++ es → HasTurn me.0 new d
  has_turn me h new d l es v cs is no_parts lane mine more =
      subst (λ m. HasTurn m.0 new d) (sym is)
      (record { came = (h, d); turn = refl; events = goes_on (lanes_of v) l h es new (ap (λ (x : List ℕ). is_one_of x l) (lanes_are v no_parts) ∙ lane) mine more; drawn = le_refl d })

  -- with no event, also of a seat without a lane, and with lanes drawn
  pub had_turn : {S : Type 0} (me : Me S (View O)) (h new : List Event) (d d' : ℕ) (v : View O) (cs : List (ℕ × S)) → me ≡ (holding v h d, cs) → new ≡ h → d ≤ d' → HasTurn me.0 new d'
  had_turn me h new d d' v cs is same more =
      subst (λ m. HasTurn m.0 new d') (sym is)
      (record { came = (h, d); turn = refl; events = record { more = []; after_is = same ∙ sym (append-nil h); theirs = λ i e lt. absurd (omega arith) }; drawn = more })

  -- nothing added is a look
  pub adds_none : (v : View O) (l : ℕ) (w : View O) → Adds v l [] w → Sees v l w
  adds_none v l w a = record {
    longer = subst (IsPrefix v.seen) (sym (a.seen ∙ append-nil a.before)) a.longer;
    mine = a.mine ∙ append-nil (own v.seen l);
    all = a.all ∙ append-nil (own_of v.seen v.lanes);
    lanes = a.lanes;
    turn = a.turn;
  }

  pub begins : (o : O) (v w : View O) (h : List Event) (d : ℕ) → Knows o h d (new_view v)
      → All (λ e. e.lane < d) h → w ≡ done (holding (new_view v) h d) h (d + 1)
      → Begins v d w × (w.turn ≡ None) × (w.origin ≡ v.origin) × (w.joined ≡ []) × (is_one_of w.lanes d ≡ true)
  begins o v w h d k later is =
      let one : d + 1 - d ≡ 1 = omega arith in
      let lanes : w.lanes ≡ d ∷ [] = ap (λ (u : View O). u.lanes) is ∙ ap (λ (n : ℕ). range_with_len d n ++ []) one in (
        record {
          above = k.drawn;
          lanes = lanes;
          mine = ap (λ (u : View O). own u.seen d) is ∙ own_none d h d later (le_refl d);
          drawn = ap (λ (u : View O). u.drawn) is;
          longer = subst (IsPrefix v.seen) (sym (ap (λ (u : View O). u.seen) is)) k.mine.longer;
          turns = ap (λ (u : View O). u.turns) is;
        },
        ap (λ (u : View O). u.turn) is,
        ap (λ (u : View O). u.origin) is,
        ap (λ (u : View O). u.joined) is,
        ap (λ (x : List ℕ). is_one_of x d) lanes ∙ ap (λ (b : Bool). b || false) (eq-eqb d d refl),
      )

  -- a pass that took in another and looked
  pub folds : (h : List Event) (l : ℕ) (v other w : View O) → v.joined ≡ [] → other.joined ≡ []
      → is_one_of v.lanes l ≡ true → w ≡ caught_up (joined_view v other) h → Covers h v.lanes v.seen
      → All (λ part. Covers h part.lanes part.seen) (joined_view v other).joined
      → ((k : ℕ) → stands k (joined_view v other) ≤ 1)
      → OnlySees v l w × Learns v other w × (w.joined ≡ []) × (is_one_of w.lanes l ≡ true)
  folds h l v other w no_parts no_parts_too lane last mine all once =
      let seen : w.seen ≡ h = ap (λ (u : View O). u.seen) last in
      let theirs : Covers h other.lanes other.seen = All-head (λ (x : Part). Covers h x.lanes x.seen) (record { lanes = other.lanes; seen = other.seen }) (other.joined ++ v.joined) all in
      let lanes : w.lanes ≡ other.lanes ++ v.lanes = ap (λ (u : View O). u.lanes) last
      ∙ (ap (λ (x : List Part). (other.lanes ++ part_lanes x) ++ v.lanes)
      (λ i. no_parts_too i ++ no_parts i) ∙ ap (λ (x : List ℕ). x ++ v.lanes) (append-nil other.lanes)) in (
        record {
          keeps = record {
            origin = ap (λ (u : View O). u.origin) last;
            longer = subst (IsPrefix v.seen)
                (sym seen) mine.longer;
            drawn =
                (let m : w.drawn ≡ max v.drawn other.drawn = ap (λ (u : View O). u.drawn) last in omega arith);
          };
          mine = ap (λ (es : List Event). own es l) seen ∙ covered h v.lanes v.seen l mine lane;
          all = ap (λ (es : List Event). own_of es v.lanes) seen ∙ mine.own;
          turns = ap (λ (u : View O). u.turns) last;
        },
        record {
          seen = subst (IsPrefix other.seen) (sym seen) theirs.longer;
          lanes = lanes;
          apart = λ k is. none_of k v.lanes
              (let one = one_stands k other.lanes is in let n = once k in let f : ℕ
              → ℕ = λ x. cond {A = ℕ} (eqb x k) 1 0 in let rest = part_lanes (other.joined ++ v.joined)
              in omega (
                arith,
                one,
                n,
                sum_append f (other.lanes ++ rest) v.lanes,
                sum_append f other.lanes
                    rest,
              ));
          all = ap (λ (es : List Event). own_of es other.lanes) seen ∙ theirs.own;
          drawn = ap (λ (u : View O). u.drawn) last;
        },
        ap (λ (u : View O). u.joined) last,
        ap (λ (x : List ℕ). is_one_of x l) lanes ∙ is_one_after l other.lanes v.lanes lane,
      )

  -- a pass is joined, as the calls tell it
  pub folds_at : {S : Type 0} (l : ℕ) (v other m : View O) (cs : List (ℕ × S)) (last : Me S (View O)) → v.joined ≡ [] → other.joined ≡ [] → is_one_of v.lanes l ≡ true → m ≡ joined_view v other
      → (h : List Event) × (last ≡ (caught_up m h, cs)) × Covers h m.lanes m.seen × All (λ part. Covers h part.lanes part.seen) m.joined × ((k : ℕ) → stands k m ≤ 1)
      → OnlySees v l last.0 × Learns v other last.0 × (last.0.joined ≡ []) × (is_one_of last.0.lanes l ≡ true)
  folds_at l v other m cs last no_parts no_parts_too lane is told =
      folds told.0 l v other last.0 no_parts no_parts_too lane (ap (λ (x : Me _ (View O)). x.0) told.1 ∙ ap (λ (x : View O). caught_up x told.0) is)
      (subst (λ (x : View O). Covers told.0 x.lanes x.seen) is told.2)
      (subst (λ (x : View O). All (λ part. Covers told.0 part.lanes part.seen) x.joined) is told.3)
      (subst (λ (x : View O). (k : ℕ) → stands k x ≤ 1) is told.4)

-- what a pass knows of a lane's events is all that the history has of it
pub mine_is : {O : Type 0} (o : O) (h : List Event) (d l : ℕ) (v : View O) → Knows o h d v → is_one_of v.lanes l ≡ true → own h l ≡ own v.seen l
mine_is o h d l v k lane = covered h v.lanes v.seen l k.mine lane

-- what a take does
module _ {W T : Type 0} {G : _} where
  -- the events that it adds
  abbrev pub granted : Take W T G → ℕ → List Event
  granted (take.Loan loan) l = record { kind = Grant; lane = l; position = loan.position } ∷ []
  granted (take.NotNow held) l = []
  granted take.Finished l = []
  granted take.OutOfMemory l = []

  pub granted_of : (t : Take W T G) (l : ℕ) → AreOf l (granted t l)
  granted_of (take.Loan loan) l = (refl, tt)
  granted_of (take.NotNow held) l = tt
  granted_of take.Finished l = tt
  granted_of take.OutOfMemory l = tt

  pub granted_is : (t : Take W T G) (l : ℕ) (was old new : List Event)
      → MatchTake t (λ loan. new ≡ with_event was Grant l loan.position) (λ held. new ≡ was) (new ≡ was)
      (new ≡ was) → was ≡ old → new ≡ old ++ granted t l
  granted_is (take.Loan loan) l was old new is same = is ∙ ap (λ (h : List Event). with_event h Grant l loan.position) same
  granted_is (take.NotNow held) l was old new is same = is ∙ (same ∙ sym (append-nil old))
  granted_is take.Finished l was old new is same = is ∙ (same ∙ sym (append-nil old))
  granted_is take.OutOfMemory l was old new is same = is ∙ (same ∙ sym (append-nil old))

  pub take_adds : {O : Type 0} (t : Take W T G) (v : View O) (l : ℕ) (w : View O) → Adds v l (granted t l) w
      → MatchTake t (λ loan. Adds v l (record { kind = Grant; lane = l; position = loan.position } ∷ []) w) (λ held. Sees v l w) (Sees v l w) (Sees v l w)
  take_adds (take.Loan loan) v l w a = a
  take_adds (take.NotNow held) v l w a = adds_none v l w a
  take_adds take.Finished v l w a = adds_none v l w a
  take_adds take.OutOfMemory v l w a = adds_none v l w a

  -- what it answers, told of the desk and of what its pass has seen
  module _ (job : T → Job) (core desk : Origin T) (old new seen : List Event) (l : ℕ) (same : core ≡ desk) (all : seen ≡ new) where
    pub take_tells : (t : Take W T G) → MatchTake t (λ loan. new ≡ with_event old Grant l loan.position) (λ held. new ≡ old) (new ≡ old) (new ≡ old)
        → MatchTake t (λ loan. (loan.lane ≡ l) × (loan.origin.value ≡ core)
        × IsLeastReadyAfter job core old loan.position) (λ held. IsNotNowAfter job core old held)
        (AllDoneAfter job core old) (ReadsLeastAfter job core old)
        → MatchTake t (λ loan. (loan.lane ≡ l) × (loan.origin.value ≡ desk)) (λ held. IsNotNowAfter job desk seen held) (AllDoneAfter job desk seen) (ReadsLeastAfter job desk seen)
    take_tells (take.Loan loan) is told = (told.0, told.1 ∙ same)
    take_tells (take.NotNow held) is told = subst₂ (λ o events. IsNotNowAfter job o events held) same (sym (all ∙ is)) told
    take_tells take.Finished is told = subst₂ (λ o events. AllDoneAfter job o events) same (sym (all ∙ is)) told
    take_tells take.OutOfMemory is told = subst₂ (λ o events. ReadsLeastAfter job o events) same (sym (all ∙ is)) told

    pub take_least : (t : Take W T G) → MatchTake t (λ loan. new ≡ with_event old Grant l loan.position) (λ held. new ≡ old) (new ≡ old) (new ≡ old)
        → MatchTake t (λ loan. (loan.lane ≡ l) × (loan.origin.value ≡ core)
        × IsLeastReadyAfter job core old loan.position) (λ held. IsNotNowAfter job core old held)
        (AllDoneAfter job core old) (ReadsLeastAfter job core old)
        → MatchTake t (λ loan. IsLeastReadyAfter job desk (before_last seen) loan.position) (λ held. ⊤) ⊤ ⊤
    take_least (take.Loan loan) is told =
        subst₂ (λ o events. IsLeastReadyAfter job o events loan.position) same
        (sym (ap before_last (all ∙ is) ∙ before_last_is old (record { kind = Grant; lane = l; position = loan.position }))) told.2
    take_least (take.NotNow held) is told = tt
    take_least take.Finished is told = tt
    take_least take.OutOfMemory is told = tt

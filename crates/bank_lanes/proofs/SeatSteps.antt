-- The seats of lanes, and what is committed, after events more.
use Rattle.std.proofs.Common.{◌≡◌, ℕ, ◌+◌, ◌<◌, ◌≤◌, Bool, true, false, List, [], ◌∷◌, ◌++◌, length, get_or, set, All, Option, Some, None, IfSome, MatchOption, refl, sym, ◌∙◌, ap, subst, inl, inr, arith, length-append}
use Rattle.std.proofs.Math.ListN.{length-set, get_or-append}
use Rattle.std.proofs.Math.Seq.{get_or-append_seam}
use Rattle.std.proofs.lemmas.Bool.{cases_eq, cases_lt}
use Rattle.std.proofs.lemmas.List.{get_or-set_same, get_or-set_other, get_or-map, get_or_default, length-map, ext_get_or}
use Rattle.std.proofs.lemmas.List.Elements.{AllWithin-from_all, All-from_all_within}
use Rattle.std.specs.List.{AllWithin}
use mathlib.Core.List.{IsPrefix}
use Rattle.bank_law.specs.declared.event.Event.{Event}
use Rattle.bank_law.specs.declared.event.EventKind.{EventKind}
use Rattle.bank_law.specs.declared.event.EventKind.TheVariants.{Grant, Commit, Return}
use Rattle.bank_law.specs.Job.{Job}
use Rattle.bank_law.specs.Machine.{with_event}
use Rattle.bank_law.specs.History.{own, holds, returns}
use Rattle.bank_core.specs.declared.work.Effects.{Effects}
use Rattle.bank_core.specs.declared.loan.Loan.{Loan}
use Rattle.bank_core.specs.declared.origin.Origin.{Origin}
use Rattle.bank_core.specs.Takes.{HasLoanOf}
use Rattle.bank_core.proofs.Seats.{grown_holds, grown_returns, grown_others}
use Rattle.bank_lanes.specs.declared.seats.Seat.{Seat}
use Rattle.bank_lanes.specs.Gates.{IsBehind, AreBehind}
use Rattle.bank_lanes.specs.Seats.{AreNewSeats, IsEmptySeat, IsSeatOf, AreSeats, sitting, IsPerformed, HasPerformed, HasPerformedAt, GrantsAlone, CommitsAlone}
use Rattle.bank_lanes.specs.Steps.{GrewBy}

-- one event more is one of its lane alone
pub grew_by : (journal next : List Event) (kind : EventKind) (lane p : ℕ) → next ≡ with_event journal kind lane p → GrewBy lane journal next
grew_by journal next kind lane p e = record {
  longer = (record { kind = kind; lane = lane; position = p } ∷ [], sym e);
  others = grown_others journal next kind lane p e;
}

-- what holds of each new event, where there is one, and where more followed
pub one_new : (P : Event → Type 0) (old new : List Event) (event : Event) → new ≡ old ++ event ∷ [] → P event → AllWithin P new (length old) (length new)
one_new P old new event e holds k d low high =
    let n = ap length e ∙ length-append old (event ∷ []) in
    let last : k ≡ length old = omega (arith, n, low, high) in
    subst (λ (xs : List Event). P (get_or xs k d)) (sym e)
    (subst (λ (i : ℕ). P (get_or (old ++ event ∷ []) i d)) (sym last) (subst P (sym (get_or-append_seam old event [] d)) holds))

pub more_new : (P : Event → Type 0) (old mid new : List Event) → IsPrefix mid new
    → AllWithin P mid (length old) (length mid) → AllWithin P new (length mid) (length new)
    → AllWithin P new (length old) (length new)
more_new P old mid new longer first rest k d low high =
    elim (cases_lt k (length mid)) [
      | inl l ↦ subst (λ (xs : List Event). P (get_or xs k d)) longer.1 (subst P (sym (get_or-append mid longer.0 d k l)) (first k d low l))
      | inr l ↦ rest k d l high
    ]

-- grants commit nothing
grant_behind : (gate : ℕ → ℕ → Type 0) (event : Event) → event.kind ≡ Grant → IsBehind gate event
grant_behind gate event grant commit = absurd (cc)

grants_behind : (gate : ℕ → ℕ → Type 0) (old new : List Event) → GrantsAlone old new → CommitsAlone gate old new
grants_behind gate old new grants k d low high = grant_behind gate (get_or new k d) (grants k d low high)

-- what was committed stays behind a gate, where what is newly committed is behind it too
behind_more : (gate : ℕ → ℕ → Type 0) (old new : List Event) → IsPrefix old new → CommitsAlone gate old new → AreBehind gate old → AreBehind gate new
behind_more gate old new longer commits behind = All-from_all_within (IsBehind gate) new (more_new (IsBehind gate) [] old new longer (AllWithin-from_all (IsBehind gate) old behind) commits)

-- an element of a list that has one
pub one_of : {X : Type 0} (xs : List X) (k : ℕ) → k < length xs → X
one_of [] k l = absurd (omega (arith, l))
one_of (x ∷ xs) k l = x

module _ {W T : Type 0} {G : _} where
  -- a lane with an empty seat holds nothing
  pub empty_holds : (seat : Seat W T G) (origin : Origin T) (journal : List Event) (lane : ℕ) → IsEmptySeat seat → IsSeatOf seat origin journal lane → holds (own journal lane) ≡ None
  empty_holds seat origin journal lane empty s = subst (λ (o : Option (Loan W T G)). HasLoanOf o origin journal lane) empty s.loan

  -- a loan of a lane of which nothing happened
  loan_stays : (o : Option (Loan W T G)) (origin next : Origin T) (old new : List Event) (lane : ℕ)
      → next ≡ origin → own new lane ≡ own old lane → HasLoanOf o origin old lane → HasLoanOf o next new lane
  loan_stays None origin next old new lane q e h = ap holds e ∙ h
  loan_stays (Some loan) origin next old new lane q e h = (h.0, h.1 ∙ sym q, ap holds e ∙ h.2)

  -- the seat of a lane of which nothing happened
  pub seat_stays : (seat : Seat W T G) (origin next : Origin T) (old new : List Event) (lane : ℕ)
      → next ≡ origin → own new lane ≡ own old lane → IsSeatOf seat origin old lane
      → IsSeatOf seat next new lane
  seat_stays seat origin next old new lane q e s = record {
    loan = loan_stays seat.loan origin next old new lane q e s.loan;
    once = λ f. ap returns e ∙ s.once f;
    out = s.out;
    passes = s.passes;
  }

  -- a loan into the seat of a lane that gave nothing back
  pub seat_lent : (seat new_seat : Seat W T G) (origin next : Origin T) (old new : List Event) (lane : ℕ) (loan : Loan W T G) → next ≡ origin → new ≡ with_event old Grant lane loan.position
      → loan.lane ≡ lane → loan.origin.value ≡ origin → seat.gave_back ≡ false → new_seat ≡ record seat { loan = Some loan } → IsSeatOf seat origin old lane → IsSeatOf new_seat next new lane
  seat_lent seat new_seat origin next old new lane loan q grown of from here is s =
      subst (λ (x : Seat W T G). IsSeatOf x next new lane) (sym is)
      (record {
        loan = (of, from ∙ sym q, grown_holds old new Grant lane loan.position grown);
        once = λ f. let a = grown_returns old new Grant lane loan.position grown in let b = s.once here in omega (arith, a, b);
        out = λ t. absurd (cc);
        passes = s.passes;
      })

  -- one event more of a loan's lane
  pub seat_grew : (seat : Seat W T G) (origin : Origin T) (old new : List Event) (kind : EventKind) (lane : ℕ) (loan : Loan W T G) → new ≡ with_event old kind loan.lane loan.position
      → seat.loan ≡ Some loan → IsSeatOf seat origin old lane → (new ≡ with_event old kind lane loan.position) × GrewBy lane old new
  seat_grew seat origin old new kind lane loan grown has s =
      let h = subst (λ (o : Option (Loan W T G)). HasLoanOf o origin old lane) has s.loan in
      let grown' : new ≡ with_event old kind lane loan.position = grown ∙ ap (λ l. with_event old kind l loan.position) h.0 in
      (grown', grew_by old new kind lane loan.position grown')

  -- the seat once its loan was committed, and once it was given back
  pub seat_committed : (seat new_seat : Seat W T G) (origin next : Origin T) (old new : List Event) (lane : ℕ) (loan : Loan W T G) → new ≡ with_event old Commit loan.lane loan.position
      → seat.loan ≡ Some loan → IsEmptySeat new_seat → new_seat.gave_back ≡ seat.gave_back → new_seat.passes.lane ≡ seat.passes.lane → IsSeatOf seat origin old lane → IsSeatOf new_seat next new lane
  seat_committed seat new_seat origin next old new lane loan grown has empty same its s =
      let grown' = (seat_grew seat origin old new Commit lane loan grown has s).0 in
      record {
        loan = subst (λ (o : Option (Loan W T G)). HasLoanOf o next new lane) (sym empty) (grown_holds old new Commit lane loan.position grown');
        once = λ f. let a = grown_returns old new Commit lane loan.position grown' in let b = s.once (sym same ∙ f) in omega (arith, a, b);
        out = λ t. empty;
        passes = its ∙ s.passes;
      }

  pub seat_returned : (seat new_seat : Seat W T G) (origin next : Origin T) (old new : List Event) (lane : ℕ) (loan : Loan W T G) → new ≡ with_event old Return loan.lane loan.position
      → seat.loan ≡ Some loan → IsEmptySeat new_seat → new_seat.gave_back ≡ true → new_seat.passes.lane ≡ seat.passes.lane → IsSeatOf seat origin old lane → IsSeatOf new_seat next new lane
  seat_returned seat new_seat origin next old new lane loan grown has empty out its s =
      let grown' = (seat_grew seat origin old new Return lane loan grown has s).0 in
      record {
        loan = subst (λ (o : Option (Loan W T G)). HasLoanOf o next new lane) (sym empty) (grown_holds old new Return lane loan.position grown');
        once = λ f. absurd (cc);
        out = λ t. empty;
        passes = its ∙ s.passes;
      }

  -- one seat changes, as one lane's events do
  pub seats_set : (seats : List (Seat W T G)) (origin next : Origin T) (old new : List Event) (at : ℕ) (seat : Seat W T G) → at < length seats → next ≡ origin → GrewBy at old new
      → AreSeats seats origin old → IsSeatOf seat next new at → AreSeats (set seats at seat) next new
  seats_set seats origin next old new at seat within q grew all one lane d l =
      elim (cases_eq lane at) [
        | inl e ↦ subst (λ (k : ℕ). IsSeatOf (get_or (set seats at seat) k d) next new k) (sym e)
            (subst (λ (x : Seat W T G). IsSeatOf x next new at) (sym (get_or-set_same seats at seat d within))
            one)
        | inr n ↦
            let other = all lane d (omega (arith, l, length-set {A = Seat W T G})) in
            subst (λ (x : Seat W T G). IsSeatOf x next new lane) (sym (get_or-set_other seats at lane seat d n))
            (seat_stays (get_or seats lane d) origin next old new lane q (grew.others lane (λ e. n (sym e))) other)
      ]

  -- seats of which the loans and the marks stay
  pub seats_same : (old new : List (Seat W T G)) (origin : Origin T) (journal : List Event) → sitting new ≡ sitting old → AreSeats old origin journal → AreSeats new origin journal
  seats_same old new origin journal same all lane d l =
      let f : Seat W T G → Option (Loan W T G) × Bool × ℕ = λ s. (s.loan, s.gave_back, s.passes.lane) in
      let long : length new ≡ length old = sym (length-map new f) ∙ (ap length same ∙ length-map old f) in
      let here : lane < length old = omega (arith, l, long) in
      let e = sym (get_or-map f new lane d (f d) l) ∙ (ap (λ xs. get_or xs lane (f d)) same ∙ get_or-map f old lane d (f d) here) in
      let loan = ap (λ p. p.0) e in
      let mark = ap (λ p. p.1) e in
      let s = all lane d here in
      record {
        loan = subst (λ (o : Option (Loan W T G)). HasLoanOf o origin journal lane) (sym loan) s.loan;
        once = λ g. s.once (sym mark ∙ g);
        out = λ t. loan ∙ s.out (sym mark ∙ t);
        passes = ap (λ p. p.2) e ∙ s.passes;
      }

  -- no lane with a seat holds anything where all seats are empty
  pub all_hold_none : (seats : List (Seat W T G)) (origin : Origin T) (journal : List Event)
      → AreSeats seats origin journal → All IsEmptySeat seats → (lane : ℕ) → lane < length seats
      → holds (own journal lane) ≡ None
  all_hold_none seats origin journal all empty lane l =
      let d = one_of seats lane l in
      empty_holds (get_or seats lane d) origin journal lane (empty lane d l) (all lane d l)

  -- seats that were moved
  pub seats_move : (seats seats' : List (Seat W T G)) (origin next : Origin T) (old new : List Event)
      → seats' ≡ seats → next ≡ origin → new ≡ old → AreSeats seats origin old → AreSeats seats' next new
  seats_move seats seats' origin next old new e q j all =
      subst (λ (x : List (Seat W T G)). AreSeats x next new) (sym e)
      (subst (λ (x : Origin T). AreSeats seats x new) (sym q) (subst (λ (x : List Event). AreSeats seats origin x) (sym j) all))

  pub set_length : (seats : List (Seat W T G)) (at : ℕ) (seat : Seat W T G) → length (set seats at seat) ≡ length seats
  set_length seats at seat = simp length-set

  -- what holds of the seats from one on still holds of those after it, whatever becomes of that one
  pub rest_set : (P : Seat W T G → Type 0) (seats seats' : List (Seat W T G)) (at : ℕ) (seat : Seat W T G)
      → seats' ≡ set seats at seat → AllWithin P seats at (length seats)
      → AllWithin P seats' (at + 1) (length seats')
  rest_set P seats seats' at seat e all =
      subst (λ (x : List (Seat W T G)). AllWithin P x (at + 1) (length x)) (sym e)
      (λ k d a b. subst P (sym (get_or-set_other seats at k seat d (λ q. omega (arith, q, a)))) (all k d (omega (arith, a)) (let n = set_length seats at seat in omega (arith, b, n))))

  pub rest_same : (P : Seat W T G → Type 0) (seats seats' : List (Seat W T G)) (at : ℕ) → seats' ≡ seats → AllWithin P seats at (length seats) → AllWithin P seats' (at + 1) (length seats')
  rest_same P seats seats' at e all =
      subst (λ (x : List (Seat W T G)). AllWithin P x (at + 1) (length x)) (sym e) (λ k d a b. all k d (omega (arith, a)) b)

  -- seats of which each has the loan and the mark that it had
  pub sitting_same : (old new : List (Seat W T G)) → length new ≡ length old
      → ((k : ℕ) (d : Seat W T G) → k < length old
      → ((get_or new k d).loan ≡ (get_or old k d).loan)
      × ((get_or new k d).gave_back ≡ (get_or old k d).gave_back)
      × ((get_or new k d).passes.lane ≡ (get_or old k d).passes.lane))
      → sitting new ≡ sitting old
  sitting_same old new long same =
      let f : Seat W T G → Option (Loan W T G) × Bool × ℕ = λ s. (s.loan, s.gave_back, s.passes.lane) in
      let m = length-map new f in
      let n = length-map old f in
      ext_get_or (None, false, 0) (sitting new) (sitting old) (m ∙ (long ∙ sym n))
      (λ k l.
      let here : k < length new = omega (arith, l, m) in
      let there : k < length old = omega (arith, here, long) in
      let d = one_of old k there in
      let s = same k d there in
      get_or-map f new k d (None, false, 0) here ∙ ((λ i. (s.0 i, s.1 i, s.2 i)) ∙ sym (get_or-map f old k d (None, false, 0) there)))

  -- new seats, where no lane holds anything or has given anything back
  pub new_seats : (seats : List (Seat W T G)) (origin : Origin T) (journal : List Event) → AreNewSeats seats
      → ((lane : ℕ) → holds (own journal lane) ≡ None) → ((lane : ℕ) → returns (own journal lane) ≡ 0) → AreSeats seats origin journal
  new_seats seats origin journal new free once lane d l =
      let n = new lane d l in
      record {
        loan = subst (λ (o : Option (Loan W T G)). HasLoanOf o origin journal lane) (sym n.empty) (free lane);
        once = λ e. once lane;
        out = λ e. n.empty;
        passes = n.passes.lane_is;
      }

  -- what a loan's commit commits, and that its return commits nothing
  pub commits_its : (seat : Seat W T G) (origin : Origin T) (old new : List Event) (lane : ℕ) (loan : Loan W T G) (effects : Effects) → new ≡ with_event old Commit loan.lane loan.position
      → seat.loan ≡ Some loan → seat.effects ≡ Some effects → IsSeatOf seat origin old lane → CommitsAlone (λ l position. (l ≡ lane) × HasPerformed position seat) old new
  commits_its seat origin old new lane loan effects grown has gave s =
      one_new (IsBehind (λ l position. (l ≡ lane) × HasPerformed position seat)) old new _ grown
      (λ e. (
        (subst (λ (o : Option (Loan W T G)). HasLoanOf o origin old lane) has s.loan).0,
        subst (λ (o : Option (Loan W T G)). MatchOption o ⊥ (λ l. MatchOption seat.effects ⊥ (λ x. l.position ≡ loan.position))) (sym has)
            (subst (λ (o : Option Effects). MatchOption o ⊥ (λ x. loan.position ≡ loan.position)) (sym gave) refl),
      ))

  -- the seats from one on are those of the beginning, also once that one is settled
  pub rest_stays : (first seats : List (Seat W T G)) (at : ℕ) (seat : Seat W T G) → ((k : ℕ) (d : Seat W T G) → at ≤ k → get_or seats k d ≡ get_or first k d)
      → (k : ℕ) (d : Seat W T G) → at + 1 ≤ k → get_or (set seats at seat) k d ≡ get_or first k d
  rest_stays first seats at seat same k d low = get_or-set_other seats at k seat d (λ q. omega (arith, q, low)) ∙ same k d (omega (arith, low))

  -- what its seat has performed is what the seat at its place has
  pub commits_at : (first seats : List (Seat W T G)) (old new : List Event) (lane : ℕ) (d : Seat W T G)
      → lane < length first → ((k : ℕ) (d : Seat W T G) → lane ≤ k → get_or seats k d ≡ get_or first k d)
      → CommitsAlone (λ l position. (l ≡ lane) × HasPerformed position (get_or seats lane d)) old new → CommitsAlone (HasPerformedAt first) old new
  commits_at first seats old new lane d within same commits k e low high commit =
      let event = get_or new k e in
      let its = commits k e low high commit in
      subst (λ (l : ℕ). HasPerformedAt first l event.position) (sym its.0)
      (within, λ f. subst (HasPerformed event.position) (same lane d (omega arith) ∙ get_or_default first lane d f within) its.1)

  -- what a seat has performed has its gate behind it
  passed_its : (loan : Option (Loan W T G)) (effects : Option Effects) (gate : ℕ → Type 0) (position : ℕ) → MatchOption loan ⊥ (λ l. MatchOption effects ⊥ (λ x. l.position ≡ position))
      → IfSome loan (λ l. IfSome effects (λ x. gate l.position)) → gate position
  passed_its (Some loan) (Some effects) gate position at behind = subst gate at behind
  passed_its (Some loan) None gate position at behind = absurd at
  passed_its None effects gate position at behind = absurd at

  passed_all : (gate : ℕ → ℕ → Type 0) (job : Job) (seats : List (Seat W T G)) (origin : Origin T) (journal : List Event) → AreSeats seats origin journal → All (IsPerformed gate job) seats
      → (event : Event) → IsBehind (HasPerformedAt seats) event → IsBehind gate event
  passed_all gate job seats origin journal all done event its commit =
      let at = its commit in
      let d = one_of seats event.lane at.0 in
      let seat = get_or seats event.lane d in
      subst (λ (l : ℕ). gate l event.position) (all event.lane d at.0).passes
      (passed_its seat.loan seat.effects (gate seat.passes.lane) event.position (at.1 d) (done event.lane d at.0).behind)

  -- a wave: grants, and commits of what was performed behind the gate
  pub behind_wave : (gate : ℕ → ℕ → Type 0) (job : Job) (seats : List (Seat W T G)) (origin : Origin T) (first taken lent settled : List Event) (lane position : ℕ)
      → taken ≡ with_event first Grant lane position → IsPrefix taken lent → GrantsAlone taken lent → IsPrefix lent settled → CommitsAlone (HasPerformedAt seats) lent settled
      → AreSeats seats origin lent → All (IsPerformed gate job) seats → AreBehind gate first → AreBehind gate settled
  behind_wave gate job seats origin first taken lent settled lane position grown lends grants settles commits all done behind =
      behind_more gate lent settled settles (λ k d low high. passed_all gate job seats origin lent all done (get_or settled k d) (commits k d low high))
      (behind_more gate taken lent lends (grants_behind gate taken lent grants)
      (behind_more gate first taken (grew_by first taken Grant lane position grown).longer (one_new (IsBehind gate) first taken _ grown (λ e. absurd (cc))) behind))

-- What a lane holds, by its own events.
use Rattle.std.proofs.Common.{◌≡◌, ℕ, Bool, true, false, cond, ◌==◌, ◌↔◌, List, [], ◌∷◌, Option, Some, None, refl, subst, eqb-true, eq-eqb, ne_eqb}
use Rattle.std.specs.Prelude.{option_and_then}
use Rattle.std.specs.List.{last_or}
use Rattle.std.proofs.lemmas.Bool.{both_ways}
use Rattle.sol_base.specs.declared.account.Account.{Account}
use Rattle.bank_law.specs.declared.event.Event.{Event}
use Rattle.bank_law.specs.declared.event.EventKind.{EventKind}
use Rattle.bank_law.specs.declared.event.EventKind.TheVariants.{Grant, Commit, Return}
use Rattle.bank_law.specs.Job.{Job}
use Rattle.bank_law.specs.Machine.{Stage, waiting, held, done, State, is_held_by, opening, MayCome, at_stage, after_event, changed_by, after, IsLegalFrom}
use Rattle.bank_law.specs.History.{own, held_after}
use Rattle.bank_law.specs.Laws.{LanesHoldTheirOwn}
use Rattle.bank_law.proofs.Stages.{at_cases, waiting_unheld, one_holder}

-- the lane holds this position and no other
abbrev HoldsJust : ℕ → (ℕ → Stage) → Option ℕ → Type 0
HoldsJust lane stage o = (i : ℕ) → (is_held_by lane (stage i) ≡ true) ↔ (o ≡ Some i)

-- a lane that held nothing takes a position
takes : (lane i : ℕ) (vs : List Account) (f : ℕ → Stage) → ((j : ℕ) → is_held_by lane (f j) ≡ false) → HoldsJust lane (at_stage f i (held lane vs)) (Some i)
takes lane i vs f none =
    at_cases (λ j x. (is_held_by lane x ≡ true) ↔ (Some i ≡ Some j)) f i (held lane vs)
    ((λ h. refl), (λ e. eq-eqb lane lane refl))
    (λ j n. ((λ h. absurd (both_ways _ (none j) h)), (λ e. absurd (n (cc)))))

-- it gives it up
leaves : (lane i : ℕ) (x : Stage) (f : ℕ → Stage) (o : Option ℕ) → is_held_by lane x ≡ false → HoldsJust lane f o → is_held_by lane (f i) ≡ true → HoldsJust lane (at_stage f i x) None
leaves lane i x f o free just h =
    at_cases (λ j y. (is_held_by lane y ≡ true) ↔ (None ≡ Some j)) f i x
    ((λ t. absurd (both_ways _ free t)), (λ e. absurd (cc)))
    (λ j n. ((λ t. let a = (just j).0 t in let b = (just i).0 h in absurd (n (cc))), (λ e. absurd (cc))))

-- another lane changes a position that this one does not hold
stays : (lane i : ℕ) (x : Stage) (f : ℕ → Stage) (o : Option ℕ) → is_held_by lane x ≡ false → HoldsJust lane f o → (is_held_by lane (f i) ≡ true → ⊥) → HoldsJust lane (at_stage f i x) o
stays lane i x f o free just n =
    at_cases (λ j y. (is_held_by lane y ≡ true) ↔ (o ≡ Some j)) f i x
    ((λ t. absurd (both_ways _ free t)), (λ e. absurd (n ((just i).1 e))))
    (λ j m. just j)

own_step : (job : Job) (s : State) (kind : EventKind) (l i lane : ℕ) (o : Option ℕ) → l ≡ lane
    → MayCome job s kind l i → HoldsJust lane s.stage o
    → HoldsJust lane (changed_by job s kind l i).stage (held_after kind i)
own_step job s Grant l i lane o e m just = subst (λ n. HoldsJust n (changed_by job s Grant l i).stage (Some i)) e (takes l i _ s.stage m.1)
own_step job s Commit l i lane o e m just = leaves lane i (done _) s.stage o refl just (subst (λ n. is_held_by n (s.stage i) ≡ true) e m)
own_step job s Return l i lane o e m just = leaves lane i waiting s.stage o refl just (subst (λ n. is_held_by n (s.stage i) ≡ true) e m)

other_step : (job : Job) (s : State) (kind : EventKind) (l i lane : ℕ) (o : Option ℕ) → (l ≡ lane → ⊥)
    → MayCome job s kind l i → HoldsJust lane s.stage o → HoldsJust lane (changed_by job s kind l i).stage o
other_step job s Grant l i lane o n m just = stays lane i (held l _) s.stage o (ne_eqb l lane n) just (waiting_unheld (s.stage i) lane m.0.waits)
other_step job s Commit l i lane o n m just = stays lane i (done _) s.stage o refl just (λ t. n (one_holder (s.stage i) l lane m t))
other_step job s Return l i lane o n m just = stays lane i waiting s.stage o refl just (λ t. n (one_holder (s.stage i) l lane m t))

-- what is held after the last of these events
abbrev held_by_last : Option Event → Option ℕ
held_by_last last = option_and_then (λ event. held_after event.kind event.position) last

lane_holds : (job : Job) (s : State) (events : List Event) (lane : ℕ) (last : Option Event)
    → IsLegalFrom job s events → HoldsJust lane s.stage (held_by_last last)
    → HoldsJust lane (after job s events).stage (held_by_last (last_or last (own events lane)))
lane_holds job s [] lane last l just = just
lane_holds job s (e ∷ es) lane last l just = by_case (e.lane == lane) refl (lane_holds job (after_event job s e) es lane)
  where
    by_case : (b : Bool) → (e.lane == lane) ≡ b
        → ((last : Option Event) → IsLegalFrom job (after_event job s e) es
        → HoldsJust lane (after_event job s e).stage (held_by_last last)
        → HoldsJust lane (after job (after_event job s e) es).stage
        (held_by_last (last_or last (own es lane))))
        → HoldsJust lane (after job (after_event job s e) es).stage (held_by_last (last_or last (cond b (e ∷ own es lane) (own es lane))))
    by_case true q rest = rest (Some e) l.1 (own_step job s e.kind e.lane e.position lane (held_by_last last) (eqb-true e.lane lane q) l.0 just)
    by_case false q rest = rest last l.1 (other_step job s e.kind e.lane e.position lane (held_by_last last) (λ t. both_ways _ q (eq-eqb e.lane lane t)) l.0 just)

pub lanes_hold : LanesHoldTheirOwn
lanes_hold job start events l lane = lane_holds job (opening start) events lane None l (λ i. ((λ t. absurd (cc)), (λ e. absurd (cc))))

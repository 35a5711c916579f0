-- The loop over the frames: each step keeps the ending of the outermost.
use Rattle.std.proofs.Common.{◌≡◌, ◌≤◌, ◌<◌, ◌+◌, ◌*◌, ◌∷◌, [], ℕ, List, length, None, Result, Ok, Err, refl, ap, sym, subst, ◌∙◌, arith}
use Rattle.std.specs.Prelude.{IfOk}
use Rattle.sol_base.specs.declared.account.Account.{Account}
use Rattle.sol_base.specs.Metas.{AreInRange}
use Rattle.tx_report.specs.LogLines.{Log}
use Rattle.invoke_engine.specs.declared.call.Call.{Call}
use Rattle.std.proofs.lemmas.List.{length-map}
use Rattle.sol_base.specs.declared.key.Key.{Key}
use Rattle.invoke_engine.specs.Frames.{Fixed, Carried, Running, Ending, Next, Runs, Done, Callee, Turn, GoesOn, Calls, Leaves}
use Rattle.invoke_engine.specs.Turns.{turn}
use Rattle.invoke_engine.specs.Returning.{returned}
use Rattle.invoke_engine.specs.Starting.{begun, next_as}
use Rattle.invoke_engine.specs.Endings.{ending_as}
use Rattle.invoke_engine.specs.Frame.{frame, nothing_returned, go, after, follow}
use Rattle.invoke_engine.specs.Conditions.{NextFits, RunsFit, TurnFits, IsGoing, AreAccountsOf, IsFrame, AreSuspended}
use Rattle.invoke_engine.specs.FrameLoop.{Stands, Steps, Goes, units_in, ending_in, measure}
use Rattle.invoke_engine.specs.Suspended.{programs_of, rest}
use Rattle.invoke_engine.specs.Ran.{IsRun}
use Rattle.invoke_engine.specs.declared.call.Ran.{Ran}
use Rattle.sol_base.specs.declared.key.TheConstants.{SYSTEM_PROGRAM}
use Rattle.invoke_engine.specs.declared.ending.Ending.{Ending as EndingValue}
use Rattle.invoke_engine.specs.declared.begin.Next.{Next as NextValue}
use Rattle.invoke_engine.specs.declared.begin.Next.TheVariants.{Done as DoneValue}
use Rattle.invoke_engine.proofs.Begins.{DoneFits, begun_fits, returned_fits}
use Rattle.invoke_engine.proofs.Fuel.{TurnTakes, NextTakes, go_turn, turn_takes, returned_takes, begun_takes}
use Rattle.invoke_engine.proofs.Keeping.{turn_fits}

-- what a frame comes to by its own turns, the last of which is this: it has the frame's ending, it
-- fits, and no unit is gained
pub record Works (s : Fixed) (outer : List Key) (f : Running) (c : Carried) (last : Turn) : Type 0
  where
    pub same : follow s outer (go s) last ≡ go s outer f c
    pub fits : TurnFits (length s.keys) s.setting.height outer last
    pub takes : TurnTakes f.machine.units last

-- where a frame stands among its own turns
pub record Working (s : Fixed) (outer : List Key) (f : Running) (c : Carried) (g : Running) (d : Carried) : Type 0 where
  pub same : go s outer g d ≡ go s outer f c
  pub frame : IsFrame (length s.keys) g
  pub going : IsGoing g
  pub units : g.machine.units ≤ f.machine.units

-- one more turn that goes on
pub working_on : (s : Fixed) (outer : List Key) (f : Running) (c : Carried) (g : Running) (d : Carried)
    (h : Running) (e : Carried) → Working s outer f c g d → turn s.setting s.keys outer g d ≡ GoesOn h e
    → Working s outer f c h e × (h.machine.units < g.machine.units)
working_on s outer f c g d h e w t =
    let fits : IsFrame (length s.keys) h = subst (TurnFits (length s.keys) s.setting.height outer) t (turn_fits s.setting s.keys outer g d w.frame) in
    let takes : TurnTakes g.machine.units (GoesOn h e) = subst (TurnTakes g.machine.units) t (turn_takes s.setting s.keys outer g d w.going) in
    let less : h.machine.units < g.machine.units = takes.0 in
    let most : g.machine.units ≤ f.machine.units = w.units in (
      record {
        same = sym (go_turn s outer g d w.going ∙ ap (follow s outer (go s)) t) ∙ w.same;
        frame = fits;
        going = takes.1;
        units = omega arith;
      },
      less,
    )

takes_less : (u v : ℕ) (t : Turn) → u ≤ v → TurnTakes u t → TurnTakes v t
takes_less u v (GoesOn f c) h k = (omega (arith, k.0), k.1)
takes_less u v (Calls f c callee left) h k = (omega (arith, k.0), k.1, omega (arith, k.2))
takes_less u v (Leaves e) h k = omega (arith, k)

-- the last turn
pub working_last : (s : Fixed) (outer : List Key) (f : Running) (c : Carried) (g : Running) (d : Carried)
    (t : Turn) → Working s outer f c g d → turn s.setting s.keys outer g d ≡ t → Works s outer f c t
working_last s outer f c g d t w e = record {
  same = sym (go_turn s outer g d w.going ∙ ap (follow s outer (go s)) e) ∙ w.same;
  fits = subst (TurnFits (length s.keys) s.setting.height outer) e (turn_fits s.setting s.keys outer g d w.frame);
  takes = takes_less g.machine.units f.machine.units t w.units (subst (TurnTakes g.machine.units) e (turn_takes s.setting s.keys outer g d w.going));
}

fewer : (n u v : ℕ) (fs : List Running) → u ≤ v → AreSuspended n v fs → AreSuspended n u fs
fewer n u v [] h k = tt
fewer n u v (f ∷ fs) h k = (k.0, omega (arith, k.1), k.2)

goes_on : (u : ℕ) (next : Next) → NextTakes u next → Goes next
goes_on u (Runs f c) h = h.1
goes_on u (Done e) h = tt

units_most : (u : ℕ) (next : Next) → NextTakes u next → units_in next ≤ u
units_most u (Runs f c) h = h.0
units_most u (Done e) h = h

measured : (fs : List Running) (next : Next) → measure fs next ≤ 3 * units_in next + 2 * length fs + 1
measured fs (Runs f c) = omega arith
measured fs (Done e) = omega arith

-- a caller after its callee
pub step_returned : (s : Fixed) (fs : List Running) (f : Running) (e : Ending) → Stands s (f ∷ fs) (Done e)
    → NextFits (length s.keys) (returned (programs_of fs) f e)
    → Steps s (f ∷ fs) (Done e) fs (returned (programs_of fs) f e)
unfolding rest
step_returned s fs f e h fits =
    let takes : NextTakes e.units (returned (programs_of fs) f e) = returned_takes (programs_of fs) f e in
    let most : units_in (returned (programs_of fs) f e) ≤ e.units = units_most e.units _ takes in
    let had : e.units ≤ f.machine.units = h.waiting.1 in
    let size = measured fs (returned (programs_of fs) f e) in
    record {
      stands = record {
        fits = fits;
        goes = goes_on e.units _ takes;
        waiting = fewer (length s.keys) _ f.machine.units fs (omega arith) h.waiting.2;
        height = omega (arith, h.height);
      };
      same = refl;
      falls = omega (arith, size);
    }

-- a frame that leaves
pub step_leaves : (s : Fixed) (fs : List Running) (f : Running) (c : Carried) (e : Ending) → Stands s fs (Runs f c) → Works s (programs_of fs) f c (Leaves e) → Steps s fs (Runs f c) fs (Done e)
step_leaves s fs f c e h w =
    let most : e.units ≤ f.machine.units = w.takes in
    record {
      stands = record { fits = w.fits; goes = tt; waiting = fewer (length s.keys) e.units f.machine.units fs most h.waiting; height = h.height };
      same = ap (rest s fs) w.same;
      falls = omega arith;
    }

-- a frame that calls another
pub step_calls : (s : Fixed) (fs : List Running) (f : Running) (c : Carried) (g : Running) (d : Carried)
    (callee : Callee) (left : ℕ) (next : Next) → Stands s fs (Runs f c)
    → Works s (programs_of fs) f c (Calls g d callee left) →
    begun s (programs_of (g ∷ fs)) callee.call callee.accounts left d ≡ next → NextFits (length s.keys) next → Steps s fs (Runs f c) (g ∷ fs) next
unfolding rest
step_calls s fs f c g d callee left next h w e fits =
    let takes : NextTakes left next = subst (NextTakes left) e (begun_takes s (programs_of (g ∷ fs)) callee.call callee.accounts left d) in
    let most : units_in next ≤ left = units_most left next takes in
    let one : left < f.machine.units = w.takes.0 in
    let two : left ≤ g.machine.units = w.takes.1 in
    let three : g.machine.units ≤ f.machine.units = w.takes.2 in
    let size = measured (g ∷ fs) next in
    let low : length (programs_of fs) + 1 < s.setting.height = w.fits.height in
    let same : length (programs_of fs) ≡ length fs = length-map fs (λ (x : Running). x.program) in
    record {
      stands = record {
        fits = fits;
        goes = goes_on left next takes;
        waiting = (w.fits.suspended, omega arith, fewer (length s.keys) g.machine.units f.machine.units fs three h.waiting);
        height = omega arith;
      };
      same = ap (λ (x : Next). rest s fs (after (programs_of fs) (go s) (returned (programs_of fs) g (after (programs_of (g ∷ fs)) (go s) x)))) (sym e) ∙ ap (rest s fs) w.same;
      falls = omega (arith, size);
    }

-- where the outermost has ended
pub stands_end : (s : Fixed) (fs : List Running) (e : Ending) → fs ≡ [] → ending_in s fs (Done e) ≡ e
unfolding rest
stands_end s fs e h = ap (λ (gs : List Running). rest s gs e) h

-- steps, by what the code returns

pub all_ok : {A E : Type 0} (r : Result A E) (P Q R S : A → Type 0) → IfOk r P → IfOk r Q → IfOk r R → ((a : A) → P a → Q a → R a → S a) → IfOk r S
all_ok (Ok a) P Q R S p q t h = h a p q t
all_ok (Err e) P Q R S p q t h = q

next_fits : (n : ℕ) (next : Next) → RunsFit n next → DoneFits n next → NextFits n next
next_fits n (Runs f c) h k = h
next_fits n (Done e) h k = k

pub step_begun : (s : Fixed) (fs : List Running) (f : Running) (c : Carried) (g : Running) (d : Carried) (callee : Callee) (left : ℕ) (gs : List Running) (next : Next) →
    gs ≡ g ∷ fs → Stands s fs (Runs f c) → Works s (programs_of fs) f c (Calls g d callee left)
    → begun s (programs_of gs) callee.call callee.accounts left d ≡ next → RunsFit (length s.keys) next
    → Steps s fs (Runs f c) gs next
step_begun s fs f c g d callee left gs next same h w begins fits =
    let ends : DoneFits (length s.keys) next = subst (DoneFits (length s.keys)) begins
    (begun_fits (length s.keys) s (programs_of gs) callee.call callee.accounts left d w.fits.call.range
    w.fits.accounts) in
    subst (λ (hs : List Running). begun s (programs_of hs) callee.call callee.accounts left d ≡ next → Steps s fs (Runs f c) hs next) (sym same)
    (λ (k : begun s (programs_of (g ∷ fs)) callee.call callee.accounts left d ≡ next). step_calls s fs f c g d callee left next h w k (next_fits (length s.keys) next fits ends)) begins

-- steps where the frame has taken turns of its own before, and the frames that wait are named twice

pub leaves_at : (s : Fixed) (fs gs : List Running) (f : Running) (c : Carried) (g : Running) (d : Carried)
    (e : Ending) → gs ≡ fs → Stands s fs (Runs f c) → Working s (programs_of gs) f c g d
    → turn s.setting s.keys (programs_of gs) g d ≡ Leaves e → Steps s fs (Runs f c) gs (Done e)
leaves_at s fs gs f c g d e same h w t =
    subst (λ (xs : List Running). Stands s xs (Runs f c) → Steps s xs (Runs f c) gs (Done e)) same
    (λ (k : Stands s gs (Runs f c)). step_leaves s gs f c e k (working_last s (programs_of gs) f c g d (Leaves e) w t)) h

pub calls_at : (s : Fixed) (fs gs hs : List Running) (f : Running) (c : Carried) (g : Running) (d : Carried) (caller : Running) (e : Carried) (callee : Callee) (left : ℕ) (next : Next) →
    gs ≡ fs → Stands s fs (Runs f c) → Working s (programs_of gs) f c g d
    → turn s.setting s.keys (programs_of gs) g d ≡ Calls caller e callee left → hs ≡ caller ∷ gs
    → begun s (programs_of hs) callee.call callee.accounts left e ≡ next → RunsFit (length s.keys) next
    → Steps s fs (Runs f c) hs next
calls_at s fs gs hs f c g d caller e callee left next same h w t pushed begins fits =
    subst (λ (xs : List Running). Stands s xs (Runs f c) → Steps s xs (Runs f c) hs next) same
    (λ (k : Stands s gs (Runs f c)). step_begun s gs f c caller e callee left hs next pushed k (working_last s (programs_of gs) f c g d (Calls caller e callee left) w t) begins fits) h

pub step_resumed : (s : Fixed) (stack : List Running) (now : NextValue) (c : Carried) (f : Running) (fs : List Running) (ending : EndingValue) (next : Next) →
    Stands s stack (next_as now c) → stack ≡ f ∷ fs → now ≡ DoneValue ending
    → returned (programs_of fs) f (ending_as ending c) ≡ next → RunsFit (length s.keys) next
    → Steps s stack (next_as now c) fs next
step_resumed s stack now c f fs ending next h same is r runs =
    let ends : DoneFits (length s.keys) next = subst (DoneFits (length s.keys)) r (returned_fits (length s.keys) (programs_of fs) f (ending_as ending c)) in
    let fits : NextFits (length s.keys) (returned (programs_of fs) f (ending_as ending c)) = subst (NextFits (length s.keys)) (sym r) (next_fits (length s.keys) next runs ends) in
    subst (λ (gs : List Running). Stands s gs (next_as now c) → Steps s gs (next_as now c) fs next) (sym same)
    (subst (λ (n : NextValue). Stands s (f ∷ fs) (next_as n c) → Steps s (f ∷ fs) (next_as n c) fs next) (sym is)
    (λ (k : Stands s (f ∷ fs) (Done (ending_as ending c))). subst (Steps s (f ∷ fs) (Done (ending_as ending c)) fs) r (step_returned s fs f (ending_as ending c) k fits))) h

pub end_of_all : (s : Fixed) (stack : List Running) (now : NextValue) (c : Carried) (ending : EndingValue)
    (total : Ending) → stack ≡ [] → now ≡ DoneValue ending → ending_in s stack (next_as now c) ≡ total
    → ending_as ending c ≡ total
end_of_all s stack now c ending total none is h =
    sym (stands_end s stack (ending_as ending c) none) ∙ ap (λ (n : NextValue). ending_in s stack (next_as n c)) (sym is) ∙ h

-- the first frame

pub first_stands : (s : Fixed) (stack : List Running) (call : Call) (accounts : List Account) (units : ℕ) (c : Carried) (next : Next) →
    stack ≡ [] → 1 ≤ s.setting.height → AreInRange (length s.keys) call.metas
    → AreAccountsOf (length s.keys) accounts → begun s (programs_of stack) call accounts units c ≡ next
    → RunsFit (length s.keys) next → Stands s stack next
first_stands s stack call accounts units c next none some range given begins fits =
    let empty : length stack ≡ 0 = ap length none in
    record {
      fits = next_fits (length s.keys) next fits (subst (DoneFits (length s.keys)) begins (begun_fits (length s.keys) s (programs_of stack) call accounts units c range given));
      goes = goes_on units next (subst (NextTakes units) begins (begun_takes s (programs_of stack) call accounts units c));
      waiting = subst (AreSuspended (length s.keys) (units_in next)) (sym none) tt;
      height = omega arith;
    }

pub first_ending : (s : Fixed) (stack : List Running) (call : Call) (accounts : List Account) (units : ℕ) (c : Carried) (next : Next) →
    stack ≡ [] → begun s (programs_of stack) call accounts units c ≡ next → ending_in s stack next ≡ frame s [] call accounts units c
unfolding rest
first_ending s stack call accounts units c next none begins =
    subst (λ (gs : List Running). begun s (programs_of gs) call accounts units c ≡ next → ending_in s gs next ≡ frame s [] call accounts units c) (sym none)
    (λ (k : begun s [] call accounts units c ≡ next). ap (after [] (go s)) (sym k)) begins

pub carried_first : (trace : ℕ) (kept : List ℕ) (log given : Log) → kept ≡ [] → log ≡ given
    → (let c : Carried = record {
      trace = trace;
      returned = kept;
      keeper = SYSTEM_PROGRAM;
      log = log;
      stopped_at = None;
    } in c) ≡ nothing_returned trace given
carried_first trace kept log given h k = rw (h, k) refl

-- what a run answers, by the code's own first values
pub run_is : (f : Carried → Ending) (ran : Ran) (before first after : Carried) (ending : EndingValue)
    (log : Log) → ending_as ending after ≡ f before → before ≡ first → after.log ≡ log
    → IsRun (ending_as ending after) ran after.log → IsRun (f first) ran log
run_is f ran before first after ending log h k l run =
    subst (λ (x : Log). IsRun (f first) ran x) l (subst (λ (e : Ending). IsRun e ran after.log) (h ∙ ap f k) run)

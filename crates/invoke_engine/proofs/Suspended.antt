-- The law of suspended frames.
use Rattle.std.proofs.Common.{◌≡◌, ◌<◌, ◌∷◌, ℕ, suc, List, refl, ap, sym, ◌∙◌, arith}
use Rattle.sol_base.specs.declared.key.Key.{Key}
use Rattle.invoke_engine.specs.Frames.{Fixed, Carried, Running, Ending, Callee, Turn, GoesOn, Calls, Leaves}
use Rattle.invoke_engine.specs.Turns.{turn}
use Rattle.invoke_engine.specs.Returning.{returned}
use Rattle.invoke_engine.specs.Frame.{frame, go, after, follow, within}
use Rattle.invoke_engine.specs.Conditions.{IsGoing}
use Rattle.invoke_engine.specs.Suspended.{programs_of, rest}
use Rattle.invoke_engine.proofs.Fuel.{go_turn, enough}

pub enough_is : (s : Fixed) (n : ℕ) (outer : List Key) (f : Running) (c : Carried) → IsGoing f → f.machine.units < n → within s n outer f c ≡ go s outer f c
enough_is s n outer f c going h = enough s n (suc f.machine.units) outer f c going h (omega arith)

by_turn : (s : Fixed) (fs : List Running) (f : Running) (c : Carried) (t : Turn) → IsGoing f
    → turn s.setting s.keys (programs_of fs) f c ≡ t
    → rest s fs (follow s (programs_of fs) (go s) t) ≡ rest s fs (go s (programs_of fs) f c)
by_turn s fs f c t going h = ap (rest s fs) (sym (go_turn s (programs_of fs) f c going ∙ ap (follow s (programs_of fs) (go s)) h))

pub keep_on : (s : Fixed) (fs : List Running) (f g : Running) (c d : Carried) → IsGoing f
    → turn s.setting s.keys (programs_of fs) f c ≡ GoesOn g d
    → rest s fs (go s (programs_of fs) g d) ≡ rest s fs (go s (programs_of fs) f c)
keep_on s fs f g c d going h = by_turn s fs f c (GoesOn g d) going h

pub keep_calls : (s : Fixed) (fs : List Running) (f g : Running) (c d : Carried) (callee : Callee) (units : ℕ)
    → IsGoing f → turn s.setting s.keys (programs_of fs) f c ≡ Calls g d callee units
    → rest s (g ∷ fs) (frame s (programs_of (g ∷ fs)) callee.call callee.accounts units d)
    ≡ rest s fs (go s (programs_of fs) f c)
unfolding rest
keep_calls s fs f g c d callee units going h = by_turn s fs f c (Calls g d callee units) going h

pub keep_leaves : (s : Fixed) (fs : List Running) (f : Running) (c : Carried) (e : Ending) → IsGoing f
    → turn s.setting s.keys (programs_of fs) f c ≡ Leaves e
    → rest s fs e ≡ rest s fs (go s (programs_of fs) f c)
keep_leaves s fs f c e going h = by_turn s fs f c (Leaves e) going h

pub taken_off : (s : Fixed) (fs : List Running) (f : Running) (e : Ending) → rest s fs (after (programs_of fs) (go s) (returned (programs_of fs) f e)) ≡ rest s (f ∷ fs) e
unfolding rest
taken_off s fs f e = refl

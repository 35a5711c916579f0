-- Turns by the stops that they come to.
use Rattle.sbpf_isa.specs.Calls.{invoke_call}
use Rattle.std.proofs.Common.{◌≡◌, ◌==◌, ℕ, Bool, true, false, List, Some, Result, Ok, Err, refl, ap, sym, subst, ◌∙◌, arith}
use Rattle.std.proofs.lemmas.Bool.Decides.{nat_tests}
use Rattle.std.specs.Prelude.{IfErr, IfOk, cond}
use Rattle.sol_base.specs.declared.key.Key.{Key}
use Rattle.sol_base.specs.declared.memory.OutOfMemory.{OutOfMemory}
use Rattle.sbpf_machine.specs.Steps.{State, StandsBeforeStore, steps}
use Rattle.sbpf_machine.specs.declared.stop.Stop.{Stop}
use Rattle.sbpf_machine.specs.declared.stop.Stop.TheVariants.{Helper}
use Rattle.sbpf_machine.specs.Plain.{plain}
use Rattle.invoke_engine.specs.declared.call.Setting.{Setting}
use Rattle.invoke_engine.specs.Frames.{Carried, Running, Turn}
use Rattle.invoke_engine.specs.Calling.{call_turn}
use Rattle.invoke_engine.specs.Serving.{serve_turn}
use Rattle.invoke_engine.specs.Turns.{turn, at_stop, run_to}
use Rattle.invoke_engine.specs.Conditions.{IsFrame}
use Rattle.sbpf_machine.proofs.Keeping.{steps_keep, ways_keep}
use Rattle.sbpf_machine.proofs.Plain.{steps_plain}
use Rattle.invoke_engine.proofs.Keeping.{run_keeps}

-- a machine's run, without the note of what is prepared
pub plain_run : (x y m : State) (result : Result Stop OutOfMemory) → plain x ≡ m
    → IfOk result (λ stop. (steps x ≡ Some y) × (y.stop ≡ Some stop))
    → IfOk result (λ stop. (steps m ≡ Some (plain y)) × (y.stop ≡ Some stop))
plain_run x y m (Ok stop) e h = (ap steps (sym e) ∙ steps_plain x y h.0, h.1)
plain_run x y m (Err short) e h = tt

-- a run keeps what was lent, whether it comes to a stop or finds no memory
pub run_lent : (x y : State) (result : Result Stop OutOfMemory)
    → IfOk result (λ stop. (steps x ≡ Some y) × (y.stop ≡ Some stop))
    → IfErr result (λ _. StandsBeforeStore x y) → y.context.memory.input.lent ≡ x.context.memory.input.lent
run_lent x y (Ok stop) stops short = (steps_keep x y stops.0).ranges.lent
run_lent x y (Err none) stops short = (ways_keep x y short.reached).ranges.lent

-- a frame whose machine ran to a stop
pub record Ran (f g : Running) (at : Stop) : Type 0 where
  pub steps : steps f.machine ≡ Some g.machine
  pub rest : g ≡ record f { machine = g.machine }
  pub stop : g.machine.stop ≡ Some at

pub ran_keeps : (n : ℕ) (f g : Running) (stop : Stop) → IsFrame n f → Ran f g stop → IsFrame n g
ran_keeps n f g stop h r = subst (IsFrame n) (sym r.rest) (run_keeps n f g.machine h r.steps)

pub turn_at : (setting : Setting) (keys outer : List Key) (f g : Running) (c : Carried) (stop : Stop) → Ran f g stop → turn setting keys outer f c ≡ at_stop setting keys outer g c (Some stop)
unfolding turn
turn_at setting keys outer f g c stop r =
    ap (run_to setting keys outer f c) r.steps
    ∙ ap (at_stop setting keys outer (record f { machine = g.machine }) c) r.stop
    ∙ ap (λ (x : Running). at_stop setting keys outer x c (Some stop)) (sym r.rest)

chosen_true : (b : Bool) (x y : Turn) → b ≡ true → cond b x y ≡ x
chosen_true true x y h = refl
chosen_true false x y h = absurd (cc)

chosen_false : (b : Bool) (x y : Turn) → b ≡ false → cond b x y ≡ y
chosen_false true x y h = absurd (cc)
chosen_false false x y h = refl

pub turn_calls : (setting : Setting) (keys outer : List Key) (f g : Running) (c : Carried) (number : ℕ)
    → Ran f g (Helper number) → number ≡ invoke_call
    → turn setting keys outer f c ≡ call_turn setting keys outer g c
turn_calls setting keys outer f g c number r h = turn_at setting keys outer f g c (Helper number) r ∙ chosen_true (number == invoke_call) _ _ (grind (arith, nat_tests))

pub turn_serves : (setting : Setting) (keys outer : List Key) (f g : Running) (c : Carried) (number : ℕ)
    → Ran f g (Helper number) → (number ≡ invoke_call → ⊥)
    → turn setting keys outer f c ≡ serve_turn setting outer g c number
turn_serves setting keys outer f g c number r h = turn_at setting keys outer f g c (Helper number) r ∙ chosen_false (number == invoke_call) _ _ (grind (arith, nat_tests))

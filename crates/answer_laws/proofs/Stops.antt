-- A machine over a verified text takes a unit for each instruction, and stops without any.
use Rattle.std.proofs.Common.{◌≡◌, ℕ, zero, suc, List, Option, Some, None, refl}
use Rattle.sbpf_verify.proofs.Starts.{first_start}
use Rattle.sbpf_machine.specs.declared.context.Context.{Context}
use Rattle.sbpf_machine.specs.declared.stop.Fault.TheVariants.{UnitsSpent}
use Rattle.sbpf_machine.specs.declared.stop.Stop.{Stop}
use Rattle.sbpf_machine.specs.declared.stop.Stop.TheVariants.{Fault}
use Rattle.sbpf_machine.specs.Runs.{StandsAtStart}
use Rattle.sbpf_machine.specs.Steps.{Go, Halt, Next, State, Stuck, first_stop, follow, going, halted, here, on, state, step, steps, steps_by}
use Rattle.sbpf_machine.proofs.Landing.{never_stuck, ways_stand}
use Rattle.sbpf_machine.proofs.Taking.{steps_take}
use Rattle.answer_laws.specs.Stopping.{MachinesStop, VerifiedTextsStop}

-- a machine at a stop
abbrev IsAtStop : Option State → Type 0
IsAtStop o = (end : State) × (stop : Stop) × (o ≡ Some end) × (end.stop ≡ Some stop)

followed : (text : List ℕ) (place units : ℕ) (c : Context) (next : Next) → step text place c ≡ next
    → ((to : ℕ) (d : Context) → step text place c ≡ Go to d → IsAtStop (first_stop text units to d))
    → (step text place c ≡ Stuck → ⊥) → IsAtStop (follow text place units (first_stop text units) next)
followed text place units c (Go to d) is onward never = onward to d is
followed text place units c (Halt stop d) is onward never = (halted text place d units stop, stop, refl, refl)
followed text place units c Stuck is onward never = absurd (never is)

stops_from : (text : List ℕ) (units place : ℕ) (c : Context) → StandsAtStart text place c None → IsAtStop (first_stop text units place c)
unfolding first_stop
stops_from text zero place c stands = (halted text place c 0 (Fault UnitsSpent), Fault UnitsSpent, refl, refl)
stops_from text (suc units) place c stands =
    followed text place units c (step text place c) refl
    (λ to d is. stops_from text units to d (ways_stand (going text place c (suc units)) (going text to d units) stands (on here is)))
    (never_stuck (going text place c (suc units)) stands)

stops_by : (x : State) (stop : Option Stop) → x.stop ≡ stop → StandsAtStart x.text x.place x.context stop → IsAtStop (steps_by x stop)
stops_by x None is stands = stops_from x.text x.units x.place x.context stands
stops_by x (Some stop) is stands = (x, stop, refl, is)

pub machines_stop : MachinesStop
unfolding steps
machines_stop x stands =
    let at = stops_by x x.stop refl stands in
    let t = steps_take x at.0 at.2 in
    record { end = at.0; run = at.2; stop = at.1; stands = at.3; units = t.most }

pub verified_texts_stop : VerifiedTextsStop
verified_texts_stop text memory units verified =
    machines_stop (state text 0 _ units None) (record {
      verified = verified;
      start = first_start text verified;
      backs = λ k frame there. absurd (cc);
      next = λ helper. absurd helper;
      number = tt;
    })

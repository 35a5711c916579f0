-- The units that runs take.
use Rattle.std.proofs.Common.{◌≡◌, ◌≤◌, ◌<◌, ℕ, zero, suc, List, Option, Some, None, refl, subst, arith}
use Rattle.sbpf_machine.specs.declared.context.Context.{Context}
use Rattle.sbpf_machine.specs.declared.stop.Stop.{Stop}
use Rattle.sbpf_machine.specs.Keeping.{TakesUnits}
use Rattle.sbpf_machine.specs.Runs.{ComesTo, ComesToBy}
use Rattle.sbpf_machine.specs.Steps.{Next, Go, Halt, Stuck, State, Reaches, here, on, IsHelper, follow, first_stop, going, steps, steps_by, step}

-- a stop at a system call has taken a unit
abbrev pub TookOne : ℕ → ℕ → Option Stop → Type 0
TookOne units left stop = IsHelper stop → left < units

abbrev Takes : ℕ → Option State → Type 0
Takes units None = Unit {0}
Takes units (Some x) = (x.units ≤ units) × TookOne units x.units x.stop

takes_more : (units : ℕ) (o : Option State) → Takes units o → Takes (suc units) o
takes_more units None h = tt
takes_more units (Some x) h = (omega (arith, h.0), λ helper. omega (arith, h.0))

followed : (text : List ℕ) (p units : ℕ) (next : Next) → ((to : ℕ) (d : Context) → Takes units (first_stop text units to d)) → Takes (suc units) (follow text p units (first_stop text units) next)
followed text p units (Go to d) onward = takes_more units (first_stop text units to d) (onward to d)
followed text p units (Halt stop d) onward = (omega arith, λ helper. omega arith)
followed text p units Stuck onward = tt

run_takes : (text : List ℕ) (units p : ℕ) (c : Context) → Takes units (first_stop text units p c)
unfolding first_stop
run_takes text zero p c = (omega arith, λ helper. absurd helper)
run_takes text (suc units) p c = followed text p units (step text p c) (λ to d. run_takes text units to d)

-- the units that are taken, where the machine may be at a stop already
abbrev TakesFrom : State → Option Stop → Option State → Type 0
TakesFrom x stop None = Unit {0}
TakesFrom x stop (Some y) = (y.units ≤ x.units) × (stop ≡ None → IsHelper y.stop → y.units < x.units)

taken : (x : State) (o : Option State) → Takes x.units o → TakesFrom x None o
taken x None h = tt
taken x (Some y) h = (h.0, λ _. h.1)

taken_by : (x : State) (stop : Option Stop) → TakesFrom x stop (steps_by x stop)
taken_by x None = taken x (first_stop x.text x.units x.place x.context) (run_takes x.text x.units x.place x.context)
taken_by x (Some stop) = (omega arith, λ none. absurd (cc))

-- what a run takes
pub steps_take : (x y : State) → steps x ≡ Some y → TakesUnits x y
unfolding steps
steps_take x y s = let t : TakesFrom x x.stop (Some y) = subst (TakesFrom x x.stop) s (taken_by x x.stop) in record { most = t.0; fewer = t.1 }

-- and what a way takes
pub ways_take : (x y : State) → Reaches x y → y.units ≤ x.units
ways_take x y here = omega arith
ways_take x y (on {place} {next} {units} {context} {context'} way s) =
    let k : suc units ≤ x.units = ways_take x (going x.text place context (suc units)) way in omega (arith, k)

no_helper : (stop : Option Stop) → stop ≡ None → IsHelper stop → ⊥
no_helper None none helper = helper
no_helper (Some stop) none helper = absurd (cc)

come_by : (x y : State) (stop : Option Stop) → y.stop ≡ stop → ComesToBy x y stop → TakesUnits x y
come_by x y (Some stop) is comes = steps_take x y comes
come_by x y None is comes = record { most = ways_take x y comes.reached; fewer = λ _ helper. absurd (no_helper y.stop is helper) }

pub come_takes : (x y : State) → ComesTo x y → TakesUnits x y
come_takes x y comes = come_by x y y.stop refl comes

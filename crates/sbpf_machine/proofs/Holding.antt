-- What each row keeps, a run keeps.
use Rattle.std.proofs.Common.{◌≡◌, ℕ, zero, suc, List, Option, Some, None, refl, subst}
use Rattle.sbpf_machine.specs.declared.context.Context.{Context}
use Rattle.sbpf_machine.specs.declared.stop.Stop.{Stop}
use Rattle.sbpf_machine.specs.Steps.{Next, Go, Halt, Stuck, State, Reaches, here, on, going, follow, first_stop, steps, steps_by, step}

-- it holds where a row leads
abbrev pub RowHolds : (Context → Type 0) → Next → Type 0
RowHolds P (Go to c) = P c
RowHolds P (Halt stop c) = P c
RowHolds P Stuck = Unit {0}

-- each row of a text keeps it
abbrev pub RowsKeep : List ℕ → (Context → Type 0) → Type 0
RowsKeep text P = (p : ℕ) (c : Context) → P c → RowHolds P (step text p c)

-- it holds where a run stops, and the text is the same
abbrev RunHolds : List ℕ → (Context → Type 0) → Option State → Type 0
RunHolds text P None = Unit {0}
RunHolds text P (Some x) = (x.text ≡ text) × P x.context

followed : (text : List ℕ) (P : Context → Type 0) (p units : ℕ) (next : Next)
    → ((to : ℕ) (d : Context) → P d → RunHolds text P (first_stop text units to d)) → RowHolds P next
    → RunHolds text P (follow text p units (first_stop text units) next)
followed text P p units (Go to d) onward h = onward to d h
followed text P p units (Halt stop d) onward h = (refl, h)
followed text P p units Stuck onward h = tt

run_holds : (text : List ℕ) (P : Context → Type 0) (units p : ℕ) (c : Context) → RowsKeep text P → P c → RunHolds text P (first_stop text units p c)
unfolding first_stop
run_holds text P zero p c keep h = (refl, h)
run_holds text P (suc units) p c keep h = followed text P p units (step text p c) (λ to d k. run_holds text P units to d keep k) (keep p c h)

steps_hold_by : (P : Context → Type 0) (x : State) (stop : Option Stop) → RowsKeep x.text P → P x.context → RunHolds x.text P (steps_by x stop)
steps_hold_by P x (Some stop) keep h = (refl, h)
steps_hold_by P x None keep h = run_holds x.text P x.units x.place x.context keep h

pub steps_hold : (P : Context → Type 0) (x y : State) → RowsKeep x.text P → steps x ≡ Some y → P x.context → (y.text ≡ x.text) × P y.context
unfolding steps
steps_hold P x y keep s h = subst (RunHolds x.text P) s (steps_hold_by P x x.stop keep h)

-- and it holds on the way
pub ways_hold : (P : Context → Type 0) (x y : State) → RowsKeep x.text P → Reaches x y → P x.context → (y.text ≡ x.text) × P y.context
ways_hold P x y keep here h = (refl, h)
ways_hold P x y keep (on {place} {next} {units} {context} {context'} way s) h =
    let before = ways_hold P x (going x.text place context (suc units)) keep way h in
    (refl, subst (RowHolds P) s (keep place context before.1))

-- Frames and their units: no frame gains any, each turn takes one, and any bound that is enough serves.
use Rattle.sbpf_isa.specs.Calls.{invoke_call}
use Rattle.invoke_engine.specs.declared.begin.TheConstants.{NATIVE_UNITS}
use Rattle.std.proofs.Common.{◌≡◌, ◌≤◌, ◌<◌, ◌==◌, ◌∷◌, [], ℕ, zero, suc, length, Bool, true, false, List, Option, Some, None, Result, Ok, Err, refl, ap, ◌∙◌, arith, if◌then◌else◌}
use Rattle.std.specs.Prelude.{nat_lt, nat_le, not, ◌&&◌}
use Rattle.sol_base.specs.declared.key.Key.{Key}
use Rattle.sol_base.specs.declared.account.Account.{Account}
use Rattle.tx_report.specs.LogLines.{Log}
use Rattle.tx_report.specs.declared.status.InstructionError.{InstructionError}
use Rattle.sbpf_machine.specs.Steps.{State, IsHelper, steps}
use Rattle.sbpf_machine.specs.declared.stop.Stop.{Stop}
use Rattle.sbpf_machine.specs.declared.stop.Stop.TheVariants.{Exit, Helper, Fault as Faulted}
use Rattle.program_cache.specs.Programs.{Sought, IsReady, IsAbsent, IsNoProgram, IsBad, IsUnverified}
use Rattle.sys_calls.specs.SysCalls.{Service}
use Rattle.sys_calls.specs.declared.fault.SysFault.{SysFault}
use Rattle.sys_calls.proofs.Rows.{sys_row-units}
use Rattle.cpi_calls.proofs.Requests.{request-units}
use Rattle.sbpf_machine.proofs.Taking.{steps_take}
use Rattle.sbpf_machine.specs.Keeping.{TakesUnits}
use Rattle.abi_input.specs.Region.{max_metas}
use Rattle.invoke_engine.specs.declared.call.Call.{Call}
use Rattle.invoke_engine.specs.declared.call.Setting.{Setting}
use Rattle.invoke_engine.specs.declared.stopped.Stopped.{Stopped}
use Rattle.invoke_engine.specs.Frames.{Fixed, Carried, Running, Ending, Next, Runs, Done, Callee, Turn, GoesOn, Calls, Leaves, height, max_trace}
use Rattle.invoke_engine.specs.Calling.{calling, requested, call_turn}
use Rattle.invoke_engine.specs.Serving.{serving, served, serve_turn}
use Rattle.invoke_engine.specs.Turns.{at_stop, run_to, turn}
use Rattle.invoke_engine.specs.Returning.{patching, returning, returned}
use Rattle.invoke_engine.specs.Native.{is_native, native}
use Rattle.invoke_engine.specs.Starting.{key_at, program_started, is_ready, crowded, entering, started, begun}
use Rattle.invoke_engine.specs.Frame.{after, follow, within, go, instruction, nothing_returned}
use Rattle.invoke_engine.specs.Conditions.{IsGoing}

-- what holds of both holds of the one that is chosen
pub either : {A : Type 0} (P : A → Type 0) (b : Bool) (one other : A) → P one → P other → P (if b then one else other)
either P true one other h k = h
either P false one other h k = k

-- what a turn of a frame leaves of so many units
abbrev pub TurnTakes : ℕ → Turn → Type 0
TurnTakes units (GoesOn f c) = (f.machine.units < units) × IsGoing f
TurnTakes units (Calls f c callee left) =
    (left < units) × (left ≤ f.machine.units) × (f.machine.units ≤ units)
TurnTakes units (Leaves e) = e.units ≤ units

abbrev pub NextTakes : ℕ → Next → Type 0
NextTakes units (Runs f c) = (f.machine.units ≤ units) × IsGoing f
NextTakes units (Done e) = e.units ≤ units

calling_takes : (outer : List Key) (f : Running) (c : Carried) (u left : ℕ) (answer : Result Callee Stopped)
    → left < u → left ≤ f.machine.units → f.machine.units ≤ u → TurnTakes u (calling outer f c left answer)
calling_takes outer f c u left (Ok callee) h k l = (h, k, l)
calling_takes outer f c u left (Err stopped) h k l = omega arith

serving_takes : (outer : List Key) (f : Running) (c : Carried) (u left : ℕ) (answer : Result Service SysFault) → left < u → TurnTakes u (serving outer f c left answer)
serving_takes outer f c u left (Ok service) h = (h, refl)
serving_takes outer f c u left (Err fault) h = omega arith

-- a stop at a system call has taken a unit
abbrev TookOne : ℕ → ℕ → Option Stop → Type 0
TookOne units left stop = IsHelper stop → left < units

stop_takes : (setting : Setting) (keys outer : List Key) (f : Running) (c : Carried) (u : ℕ)
    (stop : Option Stop) → f.machine.units ≤ u → TookOne u f.machine.units stop
    → TurnTakes u (at_stop setting keys outer f c stop)
stop_takes setting keys outer f c u None h took = omega arith
stop_takes setting keys outer f c u (Some (Exit r0)) h took = h
stop_takes setting keys outer f c u (Some (Faulted fault)) h took = h
stop_takes setting keys outer f c u (Some (Helper number)) h took =
    let less : f.machine.units < u = took tt in
    let asked : (requested f).units ≤ f.machine.units = request-units _ _ _ _ in
    let given : (served setting outer f c number).units ≤ f.machine.units = sys_row-units _ _ _ _ in
    either (TurnTakes u) (number == invoke_call) (call_turn setting keys outer f c) (serve_turn setting outer f c number)
    (calling_takes outer f c u (requested f).units _ (omega arith) asked h)
    (serving_takes outer f c u (served setting outer f c number).units _ (omega arith))

run_takes : (setting : Setting) (keys outer : List Key) (f : Running) (c : Carried) (o : Option State) → IsGoing f → steps f.machine ≡ o → TurnTakes f.machine.units (run_to setting keys outer f c o)
run_takes setting keys outer f c None going e = omega arith
run_takes setting keys outer f c (Some x) going e =
    let takes : TakesUnits f.machine x = steps_take f.machine x e in
    stop_takes setting keys outer (record f { machine = x }) c f.machine.units x.stop takes.most (λ helper. takes.fewer going helper)

-- each turn takes a unit, or ends the frame
pub turn_takes : (setting : Setting) (keys outer : List Key) (f : Running) (c : Carried) → IsGoing f → TurnTakes f.machine.units (turn setting keys outer f c)
unfolding turn
turn_takes setting keys outer f c going = run_takes setting keys outer f c (steps f.machine) going refl

patching_takes : (outer : List Key) (f : Running) (accounts : List Account) (units : ℕ) (c : Carried) (answer : Result (List ℕ) ℕ) → NextTakes units (patching outer f accounts units c answer)
patching_takes outer f accounts units c (Ok region) = (omega arith, refl)
patching_takes outer f accounts units c (Err i) = omega arith

returning_takes : (outer : List Key) (f : Running) (units : ℕ) (c : Carried) (result : Result (List Account) InstructionError) → NextTakes units (returning outer f units c result)
returning_takes outer f units c (Ok accounts) = patching_takes outer f accounts units c _
returning_takes outer f units c (Err error) = omega arith

-- a caller goes on with the units of its callee's end
pub returned_takes : (outer : List Key) (f : Running) (e : Ending) → NextTakes e.units (returned outer f e)
unfolding returned
returned_takes outer f e = returning_takes outer f e.units e.carried e.result

native_takes : (key : Key) (outer keys : List Key) (call : Call) (accounts : List Account) (units : ℕ) (c : Carried) → (native key outer keys call accounts units c).units ≤ units
native_takes key outer keys call accounts units c =
    either (λ (e : Ending). e.units ≤ units) (nat_lt units NATIVE_UNITS) _ _ (omega arith) (omega arith)

entered_takes : (setting : Setting) (keys outer : List Key) (key : Key) (call : Call) (accounts : List Account)
    (units : ℕ) (c : Carried) (found : Sought)
    → NextTakes units (program_started setting keys outer key call accounts units c found)
entered_takes setting keys outer key call accounts units c (IsReady image) = (omega arith, refl)
entered_takes setting keys outer key call accounts units c IsAbsent = omega arith
entered_takes setting keys outer key call accounts units c IsNoProgram = omega arith
entered_takes setting keys outer key call accounts units c IsBad = omega arith
entered_takes setting keys outer key call accounts units c (IsUnverified fault) = omega arith

crowded_takes : (programs : Key → Sought) (key : Key) (outer : List Key) (units : ℕ) (c : Carried) → (crowded programs key outer units c).units ≤ units
unfolding crowded
crowded_takes programs key outer units c = either (λ (e : Ending). e.units ≤ units) (not (is_native key) && is_ready (programs key)) _ _ (omega arith) (omega arith)

entering_takes : (s : Fixed) (outer : List Key) (key : Key) (call : Call) (accounts : List Account) (units : ℕ) (c : Carried) → NextTakes units (entering s outer key call accounts units c)
unfolding entering
entering_takes s outer key call accounts units c =
    either (NextTakes units) (nat_lt max_metas (length call.metas)) _ _
    (crowded_takes s.programs key outer units c)
    (either (NextTakes units) (is_native key) _ _ (native_takes key outer s.keys call accounts units c)
    (entered_takes s.setting s.keys outer key call accounts units c (s.programs key)))

pub begun_takes : (s : Fixed) (outer : List Key) (call : Call) (accounts : List Account) (units : ℕ) (c : Carried) → NextTakes units (begun s outer call accounts units c)
unfolding begun
begun_takes s outer call accounts units c = entering_takes s outer (key_at s.keys call.program) call accounts units (started (key_at s.keys call.program) (height outer) c)

-- no frame gains units
abbrev GainsNone : (List Key → Running → Carried → Ending) → Type 0
GainsNone goo = (outer : List Key) (f : Running) (c : Carried) → IsGoing f → (goo outer f c).units ≤ f.machine.units

after_units : (outer : List Key) (goo : List Key → Running → Carried → Ending) (u : ℕ) (next : Next) → GainsNone goo → NextTakes u next → (after outer goo next).units ≤ u
after_units outer goo u (Runs f c) none h = let k : (goo outer f c).units ≤ f.machine.units = none outer f c h.1 in omega (arith, h.0)
after_units outer goo u (Done e) none h = h

abbrev callee_end : Fixed → List Key → (List Key → Running → Carried → Ending) → Running → Carried → Callee → ℕ → Ending
callee_end s outer goo f c callee left = after (f.program ∷ outer) goo (begun s (f.program ∷ outer) callee.call callee.accounts left c)

callee_units : (s : Fixed) (outer : List Key) (goo : List Key → Running → Carried → Ending) (f : Running)
    (c : Carried) (callee : Callee) (left : ℕ) → GainsNone goo
    → (callee_end s outer goo f c callee left).units ≤ left
callee_units s outer goo f c callee left none = after_units (f.program ∷ outer) goo left _ none (begun_takes s (f.program ∷ outer) callee.call callee.accounts left c)

follow_units : (s : Fixed) (outer : List Key) (goo : List Key → Running → Carried → Ending) (u : ℕ) (t : Turn) → GainsNone goo → TurnTakes u t → (follow s outer goo t).units ≤ u
follow_units s outer goo u (GoesOn f c) none h = let k : (goo outer f c).units ≤ f.machine.units = none outer f c h.1 in omega (arith, h.0)
follow_units s outer goo u (Calls f c callee left) none h =
    let e : Ending = callee_end s outer goo f c callee left in
    let one : e.units ≤ left = callee_units s outer goo f c callee left none in
    let less : left < u = h.0 in
    let two : (after outer goo (returned outer f e)).units ≤ e.units = after_units outer goo e.units _ none (returned_takes outer f e) in
    omega arith
follow_units s outer goo u (Leaves e) none h = h

pub within_units : (s : Fixed) (n : ℕ) → GainsNone (within s n)
unfolding within
within_units s zero outer f c going = omega arith
within_units s (suc n) outer f c going = follow_units s outer (within s n) f.machine.units (turn s.setting s.keys outer f c) (within_units s n) (turn_takes s.setting s.keys outer f c going)

-- no instruction does either
pub instruction_units : (s : Fixed) (call : Call) (accounts : List Account) (units trace : ℕ) (log : Log) → (instruction s call accounts units trace log).units ≤ units
instruction_units s call accounts units trace log =
    either (λ (e : Ending). e.units ≤ units) (nat_le max_trace trace) _ _ (omega arith)
    (after_units [] (go s) units (begun s [] call accounts units (nothing_returned trace log))
    (λ outer f c going. within_units s (suc f.machine.units) outer f c going)
    (begun_takes s [] call accounts units (nothing_returned trace log)))

-- two are the same below so many units
abbrev SameBelow : ℕ → (List Key → Running → Carried → Ending) → (List Key → Running → Carried → Ending) → Type 0
SameBelow u goo other = (outer : List Key) (f : Running) (c : Carried) → IsGoing f → f.machine.units < u → goo outer f c ≡ other outer f c

after_same : (outer : List Key) (goo other : List Key → Running → Carried → Ending) (u v : ℕ) (next : Next)
    → SameBelow u goo other → v < u → NextTakes v next → after outer goo next ≡ after outer other next
after_same outer goo other u v (Runs f c) same less h = same outer f c h.1 (omega (arith, h.0))
after_same outer goo other u v (Done e) same less h = refl

follow_same : (s : Fixed) (outer : List Key) (goo other : List Key → Running → Carried → Ending) (u : ℕ)
    (t : Turn) → GainsNone goo → SameBelow u goo other → TurnTakes u t
    → follow s outer goo t ≡ follow s outer other t
follow_same s outer goo other u (GoesOn f c) none same h = same outer f c h.1 h.0
follow_same s outer goo other u (Calls f c callee left) none same h =
    let e : Ending = callee_end s outer goo f c callee left in
    let units : e.units ≤ left = callee_units s outer goo f c callee left none in
    let less : left < u = h.0 in
    after_same outer goo other u e.units (returned outer f e) same (omega arith) (returned_takes outer f e) ∙
    ap (λ (x : Ending). after outer other (returned outer f x))
    (after_same (f.program ∷ outer) goo other u left _ same less (begun_takes s (f.program ∷ outer) callee.call callee.accounts left c))
follow_same s outer goo other u (Leaves e) none same h = refl

-- any bound that is enough serves
pub enough : (s : Fixed) (n m : ℕ) (outer : List Key) (f : Running) (c : Carried) → IsGoing f → f.machine.units < n → f.machine.units < m → within s n outer f c ≡ within s m outer f c
unfolding within
enough s zero m outer f c going h k = absurd (omega arith)
enough s (suc n) zero outer f c going h k = absurd (omega arith)
enough s (suc n) (suc m) outer f c going h k =
    follow_same s outer (within s n) (within s m) f.machine.units (turn s.setting s.keys outer f c) (within_units s n)
    (λ o g d g_going less. enough s n m o g d g_going (omega arith) (omega arith)) (turn_takes s.setting s.keys outer f c going)

-- a frame in its middle by its next turn
pub go_turn : (s : Fixed) (outer : List Key) (f : Running) (c : Carried) → IsGoing f → go s outer f c ≡ follow s outer (go s) (turn s.setting s.keys outer f c)
unfolding within
go_turn s outer f c going =
    follow_same s outer (within s f.machine.units) (go s) f.machine.units (turn s.setting s.keys outer f c) (within_units s f.machine.units)
    (λ o g d g_going less. enough s f.machine.units (suc g.machine.units) o g d g_going less (omega arith)) (turn_takes s.setting s.keys outer f c going)

-- Frames and the instructions that were started: none is forgotten, and one that starts counts.
use Rattle.sbpf_isa.specs.Calls.{invoke_call}
use Rattle.invoke_engine.specs.declared.begin.TheConstants.{NATIVE_UNITS}
use Rattle.std.proofs.Common.{◌≡◌, ◌≤◌, ◌<◌, ◌+◌, ◌==◌, ◌∷◌, [], ℕ, zero, suc, length, Bool, true, false, List, Option, Some, None, Result, Ok, Err, refl, arith, if◌then◌else◌}
use Rattle.std.specs.Prelude.{nat_lt, nat_le, not, ◌&&◌}
use Rattle.std.proofs.lemmas.Bool.Decides.{nat_tests}
use Rattle.sol_base.specs.declared.key.Key.{Key}
use Rattle.sol_base.specs.declared.account.Account.{Account}
use Rattle.tx_report.specs.LogLines.{Log}
use Rattle.tx_report.specs.declared.status.InstructionError.{InstructionError}
use Rattle.sbpf_machine.specs.Steps.{State, steps}
use Rattle.sbpf_machine.specs.declared.stop.Stop.{Stop}
use Rattle.sbpf_machine.specs.declared.stop.Stop.TheVariants.{Exit, Helper, Fault as Faulted}
use Rattle.program_cache.specs.Programs.{Sought, IsReady, IsAbsent, IsNoProgram, IsBad, IsUnverified}
use Rattle.sys_calls.specs.SysCalls.{Service}
use Rattle.sys_calls.specs.declared.fault.SysFault.{SysFault}
use Rattle.abi_input.specs.Region.{max_metas}
use Rattle.invoke_engine.specs.declared.call.Call.{Call}
use Rattle.invoke_engine.specs.declared.call.Setting.{Setting}
use Rattle.invoke_engine.specs.declared.stopped.Stopped.{Stopped}
use Rattle.invoke_engine.specs.Frames.{Fixed, Carried, Running, Ending, Next, Runs, Done, Callee, Turn, GoesOn, Calls, Leaves, height, max_trace}
use Rattle.invoke_engine.specs.Calling.{calling, requested, call_turn}
use Rattle.invoke_engine.specs.Serving.{serving, served, serve_turn}
use Rattle.invoke_engine.specs.Turns.{at_stop, run_to, turn}
use Rattle.invoke_engine.specs.Returning.{patching, returning, returned}
use Rattle.invoke_engine.specs.Native.{is_native, native}
use Rattle.invoke_engine.specs.Starting.{key_at, program_started, is_ready, crowded, entering, started, begun}
use Rattle.invoke_engine.specs.Frame.{after, follow, within, go, frame, instruction, nothing_returned}
use Rattle.invoke_engine.specs.Reasons.{plainly}
use Rattle.invoke_engine.specs.Endings.{error_of}
use Rattle.tx_report.specs.declared.cause.Cause.TheVariants.{TraceTooLong}
use Rattle.invoke_engine.proofs.Fuel.{either}

-- at least so many instructions were started
abbrev NextCounts : ℕ → Next → Type 0
NextCounts t (Runs f c) = t ≤ c.trace
NextCounts t (Done e) = t ≤ e.carried.trace

abbrev TurnCounts : ℕ → Turn → Type 0
TurnCounts t (GoesOn f c) = t ≤ c.trace
TurnCounts t (Calls f c callee units) = t ≤ c.trace
TurnCounts t (Leaves e) = t ≤ e.carried.trace

calling_counts : (outer : List Key) (f : Running) (c : Carried) (left : ℕ) (answer : Result Callee Stopped) → TurnCounts c.trace (calling outer f c left answer)
calling_counts outer f c left (Ok callee) = omega arith
calling_counts outer f c left (Err stopped) = omega arith

serving_counts : (outer : List Key) (f : Running) (c : Carried) (left : ℕ) (answer : Result Service SysFault) → TurnCounts c.trace (serving outer f c left answer)
serving_counts outer f c left (Ok service) = omega arith
serving_counts outer f c left (Err fault) = omega arith

stop_counts : (setting : Setting) (keys outer : List Key) (f : Running) (c : Carried) (stop : Option Stop) → TurnCounts c.trace (at_stop setting keys outer f c stop)
stop_counts setting keys outer f c None = omega arith
stop_counts setting keys outer f c (Some (Exit r0)) = omega arith
stop_counts setting keys outer f c (Some (Faulted fault)) = omega arith
stop_counts setting keys outer f c (Some (Helper number)) =
    either (TurnCounts c.trace) (number == invoke_call) (call_turn setting keys outer f c) (serve_turn setting outer f c number)
    (calling_counts outer f c (requested f).units _)
    (serving_counts outer f c (served setting outer f c number).units _)

run_counts : (setting : Setting) (keys outer : List Key) (f : Running) (c : Carried) (o : Option State) → TurnCounts c.trace (run_to setting keys outer f c o)
run_counts setting keys outer f c None = omega arith
run_counts setting keys outer f c (Some x) = stop_counts setting keys outer (record f { machine = x }) c x.stop

turn_counts : (setting : Setting) (keys outer : List Key) (f : Running) (c : Carried) → TurnCounts c.trace (turn setting keys outer f c)
unfolding turn
turn_counts setting keys outer f c = run_counts setting keys outer f c (steps f.machine)

patching_counts : (outer : List Key) (f : Running) (accounts : List Account) (units : ℕ) (c : Carried) (answer : Result (List ℕ) ℕ) → NextCounts c.trace (patching outer f accounts units c answer)
patching_counts outer f accounts units c (Ok region) = omega arith
patching_counts outer f accounts units c (Err i) = omega arith

returning_counts : (outer : List Key) (f : Running) (units : ℕ) (c : Carried) (result : Result (List Account) InstructionError) → NextCounts c.trace (returning outer f units c result)
returning_counts outer f units c (Ok accounts) = patching_counts outer f accounts units c _
returning_counts outer f units c (Err error) = omega arith

returned_counts : (outer : List Key) (f : Running) (e : Ending) → NextCounts e.carried.trace (returned outer f e)
unfolding returned
returned_counts outer f e = returning_counts outer f e.units e.carried e.result

native_counts : (key : Key) (outer keys : List Key) (call : Call) (accounts : List Account) (units : ℕ) (c : Carried) → NextCounts c.trace (Done (native key outer keys call accounts units c))
native_counts key outer keys call accounts units c =
    either (λ (e : Ending). c.trace ≤ e.carried.trace) (nat_lt units NATIVE_UNITS) _ _ (omega arith) (omega arith)

entered_counts : (setting : Setting) (keys outer : List Key) (key : Key) (call : Call) (accounts : List Account)
    (units : ℕ) (c : Carried) (found : Sought)
    → NextCounts c.trace (program_started setting keys outer key call accounts units c found)
entered_counts setting keys outer key call accounts units c (IsReady image) = omega arith
entered_counts setting keys outer key call accounts units c IsAbsent = omega arith
entered_counts setting keys outer key call accounts units c IsNoProgram = omega arith
entered_counts setting keys outer key call accounts units c IsBad = omega arith
entered_counts setting keys outer key call accounts units c (IsUnverified fault) = omega arith

crowded_counts : (programs : Key → Sought) (key : Key) (outer : List Key) (units : ℕ) (c : Carried) → NextCounts c.trace (Done (crowded programs key outer units c))
unfolding crowded
crowded_counts programs key outer units c =
    either (λ (e : Ending). c.trace ≤ e.carried.trace) (not (is_native key) && is_ready (programs key)) _ _ (omega arith) (omega arith)

entering_counts : (s : Fixed) (outer : List Key) (key : Key) (call : Call) (accounts : List Account) (units : ℕ) (c : Carried) → NextCounts c.trace (entering s outer key call accounts units c)
unfolding entering
entering_counts s outer key call accounts units c =
    either (NextCounts c.trace) (nat_lt max_metas (length call.metas)) _ _
    (crowded_counts s.programs key outer units c)
    (either (NextCounts c.trace) (is_native key) _ _ (native_counts key outer s.keys call accounts units c)
    (entered_counts s.setting s.keys outer key call accounts units c (s.programs key)))

-- a frame that begins counts one
begun_counts : (s : Fixed) (outer : List Key) (call : Call) (accounts : List Account) (units : ℕ) (c : Carried) → NextCounts (c.trace + 1) (begun s outer call accounts units c)
unfolding begun
begun_counts s outer call accounts units c = entering_counts s outer (key_at s.keys call.program) call accounts units (started (key_at s.keys call.program) (height outer) c)

-- no frame forgets any
abbrev ForgetsNone : (List Key → Running → Carried → Ending) → Type 0
ForgetsNone goo = (outer : List Key) (f : Running) (c : Carried) → c.trace ≤ (goo outer f c).carried.trace

after_counts : (outer : List Key) (goo : List Key → Running → Carried → Ending) (t : ℕ) (next : Next) → ForgetsNone goo → NextCounts t next → t ≤ (after outer goo next).carried.trace
after_counts outer goo t (Runs f c) none h = let k : c.trace ≤ (goo outer f c).carried.trace = none outer f c in omega arith
after_counts outer goo t (Done e) none h = h

follow_counts : (s : Fixed) (outer : List Key) (goo : List Key → Running → Carried → Ending) (t : ℕ) (turn : Turn) → ForgetsNone goo → TurnCounts t turn → t ≤ (follow s outer goo turn).carried.trace
follow_counts s outer goo t (GoesOn f c) none h = let k : c.trace ≤ (goo outer f c).carried.trace = none outer f c in omega arith
follow_counts s outer goo t (Calls f c callee left) none h =
    let next : Next = begun s (f.program ∷ outer) callee.call callee.accounts left c in
    let e : Ending = after (f.program ∷ outer) goo next in
    let one : c.trace + 1 ≤ e.carried.trace = after_counts (f.program ∷ outer) goo (c.trace + 1) next none (begun_counts s (f.program ∷ outer) callee.call callee.accounts left c) in
    let two : e.carried.trace ≤ (after outer goo (returned outer f e)).carried.trace = after_counts outer goo e.carried.trace (returned outer f e) none (returned_counts outer f e) in
    omega arith
follow_counts s outer goo t (Leaves e) none h = h

within_counts : (s : Fixed) (n : ℕ) → ForgetsNone (within s n)
unfolding within
within_counts s zero outer f c = omega arith
within_counts s (suc n) outer f c = follow_counts s outer (within s n) c.trace (turn s.setting s.keys outer f c) (within_counts s n) (turn_counts s.setting s.keys outer f c)

-- an instruction that starts counts at least one
pub instruction_counts : (s : Fixed) (call : Call) (accounts : List Account) (units trace : ℕ) (log : Log) → trace < max_trace → trace + 1 ≤ (instruction s call accounts units trace log).carried.trace
instruction_counts s call accounts units trace log few = by_test (nat_le max_trace trace) refl
  where
    by_test : (b : Bool) → nat_le max_trace trace ≡ b
        → trace + 1 ≤ (if b then record {
          units = units;
          carried = nothing_returned trace log;
          result = Err
              (error_of 1 (plainly TraceTooLong));
        } else frame s [] call accounts units
        (nothing_returned trace log)).carried.trace
    by_test true e = absurd (grind (arith, nat_tests))
    by_test false e =
        after_counts [] (go s) (trace + 1) (begun s [] call accounts units (nothing_returned trace log)) (λ outer f c. within_counts s (suc f.machine.units) outer f c)
        (begun_counts s [] call accounts units (nothing_returned trace log))

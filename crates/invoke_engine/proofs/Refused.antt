-- Frames and their errors: the number beside a cause fits four bytes.
use Rattle.std.proofs.Common.{◌≡◌, ◌≤◌, ◌<◌, ◌^◌, ◌==◌, ◌∷◌, [], ℕ, zero, suc, length, Bool, true, false, List, Option, Some, None, Result, Ok, Err, refl, lit<, arith, if◌then◌else◌}
use Rattle.std.specs.Prelude.{IfErr, nat_lt, nat_le, not, ◌&&◌}
use Rattle.std.proofs.lemmas.Bool.{ltb-false, ltb-true}
use Rattle.spec_base.proofs.Refusing.{bind_refuses, if_refuses}
use Rattle.sol_base.specs.declared.key.Key.{Key}
use Rattle.sol_base.specs.declared.key.TheConstants.{SYSTEM_PROGRAM, LOADER_PROGRAM}
use Rattle.sol_base.specs.declared.account.Account.{Account}
use Rattle.sol_base.specs.Keys.{has_key, same_key}
use Rattle.account_rules.specs.declared.rules.RuleFault.{RuleFault}
use Rattle.account_rules.specs.declared.rules.RuleFault.TheVariants as Rule
use Rattle.account_rules.specs.AccountRules.{listed_rules}
use Rattle.account_rules.proofs.Places.{NamesWithin, listed_within}
use Rattle.tx_report.specs.LogLines.{Log}
use Rattle.tx_report.specs.declared.status.InstructionError.{InstructionError}
use Rattle.tx_report.specs.declared.cause.Cause.TheVariants.{Abort, Custom, InvalidError, Reentrancy, StackHeight, TraceTooLong}
use Rattle.sbpf_isa.specs.Calls.{invoke_call}
use Rattle.sbpf_machine.specs.Steps.{State, arguments_in, steps}
use Rattle.sbpf_machine.specs.declared.stop.Stop.{Stop}
use Rattle.sbpf_machine.specs.declared.stop.Stop.TheVariants.{Exit, Helper, Fault as Faulted}
use Rattle.sbpf_machine.specs.declared.stop.Fault.{Fault}
use Rattle.sbpf_machine.specs.declared.stop.Fault.TheVariants as Machine
use Rattle.sbpf_verify.specs.declared.fault.VerifyFault.{VerifyFault}
use Rattle.sbpf_verify.specs.declared.fault.VerifyFault.TheVariants as Verify
use Rattle.sbpf_verify.specs.Faults.{fault_number}
use Rattle.abi_input.specs.Region.{back, max_metas, patched}
use Rattle.abi_input.proofs.Refused.{back_within, patched_within}
use Rattle.program_cache.specs.Programs.{Sought, IsReady, IsAbsent, IsNoProgram, IsBad, IsUnverified}
use Rattle.sys_calls.specs.SysCalls.{Service}
use Rattle.sys_calls.specs.declared.fault.SysFault.{SysFault}
use Rattle.sys_calls.specs.declared.fault.SysFault.TheVariants as Sys
use Rattle.cpi_calls.specs.Calls.{IsSmallRequest}
use Rattle.cpi_calls.specs.Rights.{rights_of}
use Rattle.cpi_calls.specs.declared.request.CallRequest.{CallRequest}
use Rattle.cpi_calls.specs.declared.fault.CallFault.{CallFault}
use Rattle.cpi_calls.specs.declared.fault.CallFault.TheVariants as Call
use Rattle.cpi_calls.specs.declared.fault.RightsFault.{RightsFault}
use Rattle.cpi_calls.specs.declared.fault.RightsFault.TheVariants as Rights
use Rattle.cpi_calls.proofs.Refused.{NamesUpTo, rights_within}
use Rattle.cpi_calls.proofs.Requests.{request-small}
use Rattle.system_prog.specs.SystemProgram.{system_row}
use Rattle.system_prog.specs.declared.fault.SystemFault.{SystemFault}
use Rattle.system_prog.specs.declared.fault.SystemFault.TheVariants as System
use Rattle.system_prog.proofs.Refused.{system_fits, Fits as SystemFits}
use Rattle.loader_prog.specs.Loader.{loader_row}
use Rattle.loader_prog.specs.declared.fault.LoaderFault.{LoaderFault}
use Rattle.loader_prog.specs.declared.fault.LoaderFault.TheVariants as Loader
use Rattle.loader_prog.proofs.Refused.{loader_fits, Fits as LoaderFits}
use Rattle.invoke_engine.specs.declared.begin.TheConstants.{NATIVE_UNITS}
use Rattle.invoke_engine.specs.declared.call.Call.{Call as CallValue}
use Rattle.invoke_engine.specs.declared.call.Setting.{Setting}
use Rattle.invoke_engine.specs.declared.stopped.Stopped.{Stopped}
use Rattle.invoke_engine.specs.declared.stopped.Stopped.TheVariants.{Refused, OutOfMemory as no_memory}
use Rattle.invoke_engine.specs.Frames.{Fixed, Carried, Running, Ending, Next, Runs, Done, Callee, Turn, GoesOn, Calls, Leaves, height, max_trace}
use Rattle.invoke_engine.specs.Endings.{error_of, or_error, closes}
use Rattle.invoke_engine.specs.Leaving.{custom_zero, exited, lawful_accounts, left}
use Rattle.invoke_engine.specs.Calling.{called, calling, may_start, requested, call_turn}
use Rattle.invoke_engine.specs.Serving.{serving, served, serve_turn}
use Rattle.invoke_engine.specs.Turns.{at_stop, run_to, turn}
use Rattle.invoke_engine.specs.Returning.{patching, returning, returned}
use Rattle.invoke_engine.specs.Native.{is_native, native, native_row}
use Rattle.invoke_engine.specs.Starting.{key_at, program_started, is_ready, crowded, entering, started, begun}
use Rattle.invoke_engine.specs.Frame.{after, follow, within, go, frame, instruction, nothing_returned}
use Rattle.invoke_engine.specs.Reasons.{at, plainly, by_call, by_fault, by_length, by_loader, by_rights, by_rule, by_sys, by_system, refuse}
use Rattle.invoke_engine.proofs.Fuel.{either}
use Rattle.invoke_engine.proofs.Keeping.{refuse_ok}

-- ---- reasons
abbrev Fits : Stopped → Type 0
Fits (Refused reason) = reason.detail < 2 ^ 32
Fits no_memory = Unit {0}

abbrev ErrorFits : InstructionError → Type 0
ErrorFits error = error.detail < 2 ^ 32

abbrev EndingFits : Result (List Account) InstructionError → Type 0
EndingFits result = IfErr result ErrorFits

error_fits : (height : ℕ) (stopped : Stopped) → Fits stopped → ErrorFits (error_of height stopped)
error_fits height (Refused reason) h = h
error_fits height no_memory h = lit< tt

or_error_fits : (height : ℕ) (result : Result (List Account) Stopped) → IfErr result Fits → EndingFits (or_error height result)
or_error_fits height (Ok accounts) h = tt
or_error_fits height (Err stopped) h = error_fits height stopped h

-- a place of a list that a frame may have
small : (n i : ℕ) → n ≤ max_metas → i < n → i < 2 ^ 32
small n i most below = omega (arith, most, below)

refuse_fits : {A E : Type 0} (by : E → Stopped) (P : E → Type 0) (r : Result A E) → ((e : E) → P e → Fits (by e)) → IfErr r P → IfErr (refuse by r) Fits
refuse_fits by P (Ok x) each h = tt
refuse_fits by P (Err e) each h = each e h

fault_fits : (fault : Fault) → Fits (by_fault fault)
fault_fits Machine.UnitsSpent = lit< tt
fault_fits Machine.DivideByZero = lit< tt
fault_fits (Machine.AccessViolation addr len write) = lit< tt
fault_fits Machine.CallDepth = lit< tt
fault_fits (Machine.BadCallTarget value) = lit< tt

sys_fits : (fault : SysFault) → Fits (by_sys fault)
sys_fits Sys.Abort = lit< tt
sys_fits (Sys.AccessViolation access) = lit< tt
sys_fits Sys.Overlap = lit< tt
sys_fits Sys.UnitsSpent = lit< tt
sys_fits Sys.TooManySeeds = lit< tt
sys_fits Sys.ReturnTooLong = lit< tt
sys_fits Sys.BadText = lit< tt
sys_fits Sys.TooManySlices = lit< tt
sys_fits Sys.OutOfMemory = tt

call_fits : (fault : CallFault) → Fits (by_call fault)
call_fits (Call.AccessViolation access) = lit< tt
call_fits Call.TooManyAccounts = lit< tt
call_fits Call.DataTooLong = lit< tt
call_fits Call.TooManySigners = lit< tt
call_fits Call.BadSeeds = lit< tt
call_fits Call.BadFlag = lit< tt
call_fits Call.UnitsSpent = lit< tt
call_fits Call.OutOfMemory = tt

rights_fit : (n : ℕ) → n ≤ max_metas → (fault : RightsFault) → NamesUpTo n fault → Fits (by_rights fault)
rights_fit n most (Rights.MissingAccount i) h = omega (arith, most, h)
rights_fit n most (Rights.PrivilegeEscalation i) h = omega (arith, most, h)
rights_fit n most Rights.OutOfMemory h = tt

rule_fits : (n : ℕ) → n ≤ max_metas → (fault : RuleFault) → NamesWithin n fault → Fits (by_rule fault)
rule_fits n most (Rule.ReadonlyChanged i) h = small n i most h
rule_fits n most (Rule.ExecutableChanged i) h = small n i most h
rule_fits n most (Rule.OwnerChange i) h = small n i most h
rule_fits n most (Rule.ForeignDebit i) h = small n i most h
rule_fits n most (Rule.ForeignData i) h = small n i most h
rule_fits n most (Rule.TooLarge i) h = small n i most h
rule_fits n most Rule.Unbalanced h = lit< tt

system_fault_fits : (n : ℕ) → n ≤ max_metas → (fault : SystemFault) → SystemFits n fault → Fits (by_system fault)
system_fault_fits n most System.InvalidInstruction h = lit< tt
system_fault_fits n most System.NotEnoughAccounts h = lit< tt
system_fault_fits n most (System.MissingSignature i) h = h
system_fault_fits n most System.InvalidArgument h = lit< tt
system_fault_fits n most (System.Custom code) h = h
system_fault_fits n most (System.Rule fault) h = rule_fits n most fault h
system_fault_fits n most System.OutOfMemory h = tt

loader_fault_fits : (n : ℕ) → n ≤ max_metas → (fault : LoaderFault) → LoaderFits n fault → Fits (by_loader fault)
loader_fault_fits n most Loader.InvalidInstruction h = lit< tt
loader_fault_fits n most Loader.NotEnoughAccounts h = lit< tt
loader_fault_fits n most (Loader.MissingSignature i) h = h
loader_fault_fits n most (Loader.Custom code) h = h
loader_fault_fits n most (Loader.Rule fault) h = rule_fits n most fault h
loader_fault_fits n most Loader.OutOfMemory h = tt

number_fits : (fault : VerifyFault) → fault_number fault < 2 ^ 32
number_fits Verify.Length = lit< tt
number_fits (Verify.Opcode place) = lit< tt
number_fits (Verify.Register place) = lit< tt
number_fits (Verify.WritesFrame place) = lit< tt
number_fits (Verify.ZeroDivisor place) = lit< tt
number_fits (Verify.Shift place) = lit< tt
number_fits (Verify.HalfWide place) = lit< tt
number_fits (Verify.Jump place) = lit< tt
number_fits (Verify.Helper place) = lit< tt
number_fits Verify.OpenEnd = lit< tt
number_fits (Verify.Field place) = lit< tt

-- ---- what a frame leaves
abbrev Short : Running → Type 0
Short f = length f.metas ≤ max_metas

lawful_fits : (f : Running) → Short f → IfErr (lawful_accounts f) Fits
unfolding lawful_accounts
lawful_fits f short =
    bind_refuses Fits (refuse by_length (back f.machine.context.memory.input.bytes f.start f.before f.metas)) _
    (refuse_fits by_length (λ i. i < length f.metas)
    (back f.machine.context.memory.input.bytes f.start f.before f.metas)
    (λ i below. small (length f.metas) i short below)
    (back_within f.machine.context.memory.input.bytes f.start f.before f.metas))
    (λ accounts taken. bind_refuses Fits (refuse by_rule (listed_rules f.program f.metas f.before accounts)) _
    (refuse_fits by_rule (NamesWithin (length f.metas)) (listed_rules f.program f.metas f.before accounts) (rule_fits (length f.metas) short) (listed_within f.program f.metas f.before accounts))
    (λ passed is. tt))

exited_fits : (r0 : ℕ) → IfErr (exited r0) Fits
unfolding exited
exited_fits r0 = by_test (r0 == 0) (nat_lt r0 custom_zero) (r0 == custom_zero) (Ok tt) tt refl
  where
    by_test : (a b c : Bool) (done : Result (Unit {0}) Stopped) → IfErr done Fits → nat_lt r0 custom_zero ≡ b
        → IfErr (if a then done else if b then Err (at Custom r0) else if c then Err (at Custom 0) else Err
        (plainly InvalidError)) Fits
    by_test true b c done h e = h
    by_test false true c done h e = ltb-true r0 custom_zero e
    by_test false false true done h e = lit< tt
    by_test false false false done h e = lit< tt

left_fits : (f : Running) (r0 : ℕ) → Short f → IfErr (left f r0) Fits
unfolding left
left_fits f r0 short =
    bind_refuses Fits (lawful_accounts f) _ (lawful_fits f short)
    (λ accounts is. bind_refuses Fits (exited r0) _ (exited_fits r0) (λ done ended. tt))

start_fits : (most : ℕ) (outer : List Key) (f : Running) (trace : ℕ) (program : Key) → IfErr (may_start most outer f trace program) Fits
unfolding may_start
start_fits most outer f trace program =
    if_refuses Fits (nat_le max_trace trace) (plainly TraceTooLong) _ (lit< tt)
    (if_refuses Fits (nat_le most (height outer)) (plainly StackHeight) _ (lit< tt)
    (if_refuses Fits (not (same_key program f.program) && has_key program outer) (plainly Reentrancy) (Ok tt) (lit< tt) tt))

called_fits : (most : ℕ) (keys outer : List Key) (f : Running) (trace : ℕ)
    (answer : Result CallRequest CallFault)
    → ((request : CallRequest) → answer ≡ Ok request → IsSmallRequest request) → Short f
    → IfErr (called most keys outer f trace answer) Fits
unfolding called
called_fits most keys outer f trace answer asked short =
    bind_refuses Fits (refuse by_call answer) _ (by_answer answer)
    (λ request is. let few : IsSmallRequest request = asked request (refuse_ok by_call answer request is) in
    bind_refuses Fits (refuse by_rights (rights_of request keys f.metas)) _
    (refuse_fits by_rights (NamesUpTo (length request.metas)) (rights_of request keys f.metas) (rights_fit (length request.metas) few.metas) (rights_within request keys f.metas))
    (λ granted g. bind_refuses Fits (lawful_accounts f) _ (lawful_fits f short)
    (λ accounts a. bind_refuses Fits (may_start most outer f trace request.program) _ (start_fits most outer f trace request.program) (λ may m. tt))))
  where
    by_answer : (r : Result CallRequest CallFault) → IfErr (refuse by_call r) Fits
    by_answer (Ok request) = tt
    by_answer (Err fault) = call_fits fault

-- ---- turns
abbrev NextFits : Next → Type 0
NextFits (Runs f c) = Short f
NextFits (Done e) = EndingFits e.result

abbrev TurnFits : Turn → Type 0
TurnFits (GoesOn f c) = Short f
TurnFits (Calls f c callee units) = Short f
TurnFits (Leaves e) = EndingFits e.result

closes_fits : (outer : List Key) (f : Running) (units : ℕ) (c : Carried) (result : Result (List Account) Stopped) → IfErr result Fits → EndingFits (closes outer f units c result).result
closes_fits outer f units c result h = or_error_fits (height outer) result h

calling_fits : (outer : List Key) (f : Running) (c : Carried) (units : ℕ) (answer : Result Callee Stopped) → Short f → IfErr answer Fits → TurnFits (calling outer f c units answer)
calling_fits outer f c units (Ok callee) short h = short
calling_fits outer f c units (Err stopped) short h = closes_fits outer f units c (Err stopped) h

serving_fits : (outer : List Key) (f : Running) (c : Carried) (units : ℕ) (answer : Result Service SysFault) → Short f → TurnFits (serving outer f c units answer)
serving_fits outer f c units (Ok service) short = short
serving_fits outer f c units (Err fault) short = closes_fits outer f units c (Err (by_sys fault)) (sys_fits fault)

stop_fits : (setting : Setting) (keys outer : List Key) (f : Running) (c : Carried) (stop : Option Stop) → Short f → TurnFits (at_stop setting keys outer f c stop)
stop_fits setting keys outer f c None short = closes_fits outer f 0 c (Err (plainly Abort)) (lit< tt)
stop_fits setting keys outer f c (Some (Exit r0)) short = closes_fits outer f f.machine.units c (left f r0) (left_fits f r0 short)
stop_fits setting keys outer f c (Some (Faulted fault)) short = closes_fits outer f f.machine.units c (Err (by_fault fault)) (fault_fits fault)
stop_fits setting keys outer f c (Some (Helper number)) short =
    either TurnFits (number == invoke_call) (call_turn setting keys outer f c) (serve_turn setting outer f c number)
    (calling_fits outer f c (requested f).units (called setting.height keys outer f c.trace (requested f).answer) short
    (called_fits setting.height keys outer f c.trace (requested f).answer
    (λ request is. request-small (arguments_in f.machine.context.registers) f.machine.context.memory
    f.program f.machine.units request is) short))
    (serving_fits outer f c (served setting outer f c number).units (served setting outer f c number).answer short)

run_fits : (setting : Setting) (keys outer : List Key) (f : Running) (c : Carried) (o : Option State) → Short f → TurnFits (run_to setting keys outer f c o)
run_fits setting keys outer f c None short = closes_fits outer f 0 c (Err (plainly Abort)) (lit< tt)
run_fits setting keys outer f c (Some x) short = stop_fits setting keys outer (record f { machine = x }) c x.stop short

turn_fits : (setting : Setting) (keys outer : List Key) (f : Running) (c : Carried) → Short f → TurnFits (turn setting keys outer f c)
unfolding turn
turn_fits setting keys outer f c short = run_fits setting keys outer f c (steps f.machine) short

-- ---- frames at their starts, and after a callee
patching_fits : (outer : List Key) (f : Running) (accounts : List Account) (units : ℕ) (c : Carried)
    (answer : Result (List ℕ) ℕ) → Short f → IfErr answer (λ i. i < length f.metas)
    → NextFits (patching outer f accounts units c answer)
patching_fits outer f accounts units c (Ok region) short h = short
patching_fits outer f accounts units c (Err i) short h = closes_fits outer f units c (Err (by_length i)) (small (length f.metas) i short h)

returning_fits : (outer : List Key) (f : Running) (units : ℕ) (c : Carried)
    (result : Result (List Account) InstructionError) → Short f → EndingFits result
    → NextFits (returning outer f units c result)
returning_fits outer f units c (Ok accounts) short h =
    patching_fits outer f accounts units c (patched f.machine.context.memory.input.bytes f.start accounts f.metas) short (patched_within f.machine.context.memory.input.bytes f.start accounts f.metas)
returning_fits outer f units c (Err error) short h = h

returned_fits : (outer : List Key) (f : Running) (e : Ending) → Short f → EndingFits e.result → NextFits (returned outer f e)
unfolding returned
returned_fits outer f e short h = returning_fits outer f e.units e.carried e.result short h

native_row_fits : (key : Key) (keys : List Key) (accounts : List Account) (call : CallValue) → length call.metas ≤ max_metas → IfErr (native_row key keys accounts call) Fits
unfolding native_row
native_row_fits key keys accounts call most =
    either (λ (r : Result (List Account) Stopped). IfErr r Fits) (same_key key SYSTEM_PROGRAM) _ _
    (refuse_fits by_system (SystemFits (length call.metas)) (system_row keys accounts call.metas call.input)
    (system_fault_fits (length call.metas) most) (system_fits keys accounts call.metas call.input))
    (either (λ (r : Result (List Account) Stopped). IfErr r Fits) (same_key key LOADER_PROGRAM) _ _
    (refuse_fits by_loader (LoaderFits (length call.metas)) (loader_row keys accounts call.metas call.input)
    (loader_fault_fits (length call.metas) most) (loader_fits keys accounts call.metas call.input)) tt)

native_fits : (key : Key) (outer keys : List Key) (call : CallValue) (accounts : List Account) (units : ℕ)
    (c : Carried) → length call.metas ≤ max_metas
    → NextFits (Done (native key outer keys call accounts units c))
native_fits key outer keys call accounts units c most =
    either (λ (e : Ending). EndingFits e.result) (nat_lt units NATIVE_UNITS) _ _ (lit< tt)
    (or_error_fits (height outer) (native_row key keys accounts call) (native_row_fits key keys accounts call most))

entered_fits : (setting : Setting) (keys outer : List Key) (key : Key) (call : CallValue)
    (accounts : List Account) (units : ℕ) (c : Carried) (found : Sought) → length call.metas ≤ max_metas
    → NextFits (program_started setting keys outer key call accounts units c found)
entered_fits setting keys outer key call accounts units c (IsReady image) most = most
entered_fits setting keys outer key call accounts units c IsAbsent most = lit< tt
entered_fits setting keys outer key call accounts units c IsNoProgram most = lit< tt
entered_fits setting keys outer key call accounts units c IsBad most = lit< tt
entered_fits setting keys outer key call accounts units c (IsUnverified fault) most = number_fits fault

crowded_fits : (programs : Key → Sought) (key : Key) (outer : List Key) (units : ℕ) (c : Carried) → EndingFits (crowded programs key outer units c).result
unfolding crowded
crowded_fits programs key outer units c = either (λ (e : Ending). EndingFits e.result) (not (is_native key) && is_ready (programs key)) _ _ (lit< tt) (lit< tt)

entering_fits : (s : Fixed) (outer : List Key) (key : Key) (call : CallValue) (accounts : List Account) (units : ℕ) (c : Carried) → NextFits (entering s outer key call accounts units c)
unfolding entering
entering_fits s outer key call accounts units c = by_count (nat_lt max_metas (length call.metas)) refl
  where
    by_count : (b : Bool) → nat_lt max_metas (length call.metas) ≡ b
        → NextFits (if b then Done (crowded s.programs key outer units c) else if is_native key then Done
        (native key outer s.keys call accounts units c) else program_started s.setting s.keys outer key call
        accounts units c (s.programs key))
    by_count true e = crowded_fits s.programs key outer units c
    by_count false e =
        let most : length call.metas ≤ max_metas = ltb-false max_metas (length call.metas) e in
        either NextFits (is_native key) _ _ (native_fits key outer s.keys call accounts units c most) (entered_fits s.setting s.keys outer key call accounts units c (s.programs key) most)

begun_fits : (s : Fixed) (outer : List Key) (call : CallValue) (accounts : List Account) (units : ℕ) (c : Carried) → NextFits (begun s outer call accounts units c)
unfolding begun
begun_fits s outer call accounts units c = entering_fits s outer (key_at s.keys call.program) call accounts units (started (key_at s.keys call.program) (height outer) c)

-- ---- whole frames
abbrev AllFit : (List Key → Running → Carried → Ending) → Type 0
AllFit goo = (outer : List Key) (f : Running) (c : Carried) → Short f → EndingFits (goo outer f c).result

after_fits : (outer : List Key) (goo : List Key → Running → Carried → Ending) (next : Next) → AllFit goo → NextFits next → EndingFits (after outer goo next).result
after_fits outer goo (Runs f c) all h = all outer f c h
after_fits outer goo (Done e) all h = h

follow_fits : (s : Fixed) (outer : List Key) (goo : List Key → Running → Carried → Ending) (t : Turn) → AllFit goo → TurnFits t → EndingFits (follow s outer goo t).result
follow_fits s outer goo (GoesOn f c) all h = all outer f c h
follow_fits s outer goo (Calls f c callee left) all h =
    let inner : List Key = f.program ∷ outer in
    let next : Next = begun s inner callee.call callee.accounts left c in
    let e : Ending = after inner goo next in
    after_fits outer goo (returned outer f e) all (returned_fits outer f e h (after_fits inner goo next all (begun_fits s inner callee.call callee.accounts left c)))
follow_fits s outer goo (Leaves e) all h = h

within_fits : (s : Fixed) (n : ℕ) → AllFit (within s n)
unfolding within
within_fits s zero outer f c short = lit< tt
within_fits s (suc n) outer f c short = follow_fits s outer (within s n) (turn s.setting s.keys outer f c) (within_fits s n) (turn_fits s.setting s.keys outer f c short)

-- the number beside the cause of an instruction that fails
pub instruction-error : (s : Fixed) (call : CallValue) (accounts : List Account) (units trace : ℕ) (log : Log)
    → IfErr (instruction s call accounts units trace log).result (λ error. error.detail < 2 ^ 32)
instruction-error s call accounts units trace log =
    either (λ (e : Ending). EndingFits e.result) (nat_le max_trace trace)
    (record {
      units = units;
      carried = nothing_returned trace log;
      result = Err
          (error_of 1 (plainly TraceTooLong));
    }) (frame s [] call accounts units (nothing_returned trace log))
    (lit< tt)
    (after_fits [] (go s) (begun s [] call accounts units (nothing_returned trace log))
    (λ outer f c short. within_fits s (suc f.machine.units) outer f c short)
    (begun_fits s [] call accounts units (nothing_returned trace log)))

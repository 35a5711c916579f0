-- Where programs stop: nowhere where all ended well, and at an access exactly where its refusal is the cause.
use Rattle.std.proofs.Common.{◌≡◌, ◌==◌, ◌-◌, ◌∷◌, [], ℕ, zero, suc, length, Bool, true, false, List, Option, Some, None, Result, Ok, Err, refl, sym, ap, ◌∙◌, if◌then◌else◌}
use Rattle.std.specs.Prelude.{IfErr, is_some, nat_lt, nat_le, not, ◌&&◌}
use Rattle.spec_base.proofs.Refusing.{bind_refuses, if_refuses}
use Rattle.sol_base.specs.declared.key.Key.{Key}
use Rattle.sol_base.specs.declared.key.TheConstants.{SYSTEM_PROGRAM, LOADER_PROGRAM}
use Rattle.sol_base.specs.declared.account.Account.{Account}
use Rattle.sol_base.specs.Keys.{has_key, same_key}
use Rattle.account_rules.specs.declared.rules.RuleFault.{RuleFault}
use Rattle.account_rules.specs.declared.rules.RuleFault.TheVariants as Rule
use Rattle.account_rules.specs.AccountRules.{listed_rules}
use Rattle.tx_report.specs.LogLines.{Log}
use Rattle.tx_report.specs.declared.status.InstructionError.{InstructionError}
use Rattle.tx_report.specs.declared.cause.Cause.TheVariants.{Abort, Custom, InvalidError, Reentrancy, StackHeight, TraceTooLong}
use Rattle.sbpf_isa.specs.Calls.{invoke_call}
use Rattle.sbpf_machine.specs.Steps.{State, steps}
use Rattle.sbpf_machine.specs.declared.stop.Stop.{Stop}
use Rattle.sbpf_machine.specs.declared.stop.Stop.TheVariants.{Exit, Helper, Fault as Faulted}
use Rattle.sbpf_machine.specs.declared.stop.Fault.{Fault}
use Rattle.sbpf_machine.specs.declared.stop.Fault.TheVariants as Machine
use Rattle.abi_input.specs.Region.{back, max_metas, patched}
use Rattle.program_cache.specs.Programs.{Sought, IsReady, IsAbsent, IsNoProgram, IsBad, IsUnverified}
use Rattle.sys_calls.specs.SysCalls.{Service}
use Rattle.sys_calls.specs.declared.fault.SysFault.{SysFault}
use Rattle.sys_calls.specs.declared.fault.SysFault.TheVariants as Sys
use Rattle.cpi_calls.specs.Rights.{rights_of}
use Rattle.cpi_calls.specs.declared.request.CallRequest.{CallRequest}
use Rattle.cpi_calls.specs.declared.fault.CallFault.{CallFault}
use Rattle.cpi_calls.specs.declared.fault.CallFault.TheVariants as Call
use Rattle.cpi_calls.specs.declared.fault.RightsFault.{RightsFault}
use Rattle.cpi_calls.specs.declared.fault.RightsFault.TheVariants as Rights
use Rattle.system_prog.specs.SystemProgram.{system_row}
use Rattle.system_prog.specs.declared.fault.SystemFault.{SystemFault}
use Rattle.system_prog.specs.declared.fault.SystemFault.TheVariants as System
use Rattle.loader_prog.specs.Loader.{loader_row}
use Rattle.loader_prog.specs.declared.fault.LoaderFault.{LoaderFault}
use Rattle.loader_prog.specs.declared.fault.LoaderFault.TheVariants as Loader
use Rattle.invoke_engine.specs.declared.begin.TheConstants.{NATIVE_UNITS}
use Rattle.invoke_engine.specs.declared.call.Call.{Call as CallValue}
use Rattle.invoke_engine.specs.declared.call.Setting.{Setting}
use Rattle.invoke_engine.specs.declared.stopped.Stopped.{Stopped}
use Rattle.invoke_engine.specs.declared.stopped.Stopped.TheVariants.{Refused, OutOfMemory as no_memory}
use Rattle.invoke_engine.specs.Frames.{Fixed, Carried, Running, Ending, Next, Runs, Done, Callee, Turn, GoesOn, Calls, Leaves, height, max_trace}
use Rattle.invoke_engine.specs.Endings.{error_of, ending_of, or_error, closes}
use Rattle.invoke_engine.specs.Leaving.{custom_zero, exited, lawful_accounts, left}
use Rattle.invoke_engine.specs.Calling.{called, calling, may_start, requested, call_turn}
use Rattle.invoke_engine.specs.Serving.{serving, served, serve_turn}
use Rattle.invoke_engine.specs.Stops.{is_violation, tells_access, TellsStop}
use Rattle.invoke_engine.specs.Turns.{at_stop, run_to, turn}
use Rattle.invoke_engine.specs.Returning.{patching, returning, returned}
use Rattle.invoke_engine.specs.Native.{is_native, native, native_row}
use Rattle.invoke_engine.specs.Starting.{key_at, program_started, is_ready, crowded, entering, started, begun}
use Rattle.invoke_engine.specs.Frame.{after, follow, within, go, frame, instruction, nothing_returned}
use Rattle.invoke_engine.specs.Reasons.{at, plainly, by_call, by_fault, by_length, by_loader, by_rights, by_rule, by_sys, by_system, refuse}
use Rattle.invoke_engine.proofs.Fuel.{either}

-- ---- reasons
-- a refusal has an access exactly where that is its cause
abbrev Tells : Stopped → Type 0
Tells (Refused reason) = is_violation reason.cause ≡ is_some reason.access
Tells no_memory = Unit {0}

-- no access was refused
abbrev Other : Stopped → Type 0
Other (Refused reason) = is_violation reason.cause ≡ false
Other no_memory = Unit {0}

refuse_tells : {A E : Type 0} (P : Stopped → Type 0) (by : E → Stopped) (r : Result A E) → ((e : E) → P (by e)) → IfErr (refuse by r) P
refuse_tells P by (Ok x) each = tt
refuse_tells P by (Err e) each = each e

fault_tells : (fault : Fault) → Tells (by_fault fault)
fault_tells Machine.UnitsSpent = refl
fault_tells Machine.DivideByZero = refl
fault_tells (Machine.AccessViolation addr len write) = refl
fault_tells Machine.CallDepth = refl
fault_tells (Machine.BadCallTarget value) = refl

sys_tells : (fault : SysFault) → Tells (by_sys fault)
sys_tells Sys.Abort = refl
sys_tells (Sys.AccessViolation access) = refl
sys_tells Sys.Overlap = refl
sys_tells Sys.UnitsSpent = refl
sys_tells Sys.TooManySeeds = refl
sys_tells Sys.ReturnTooLong = refl
sys_tells Sys.BadText = refl
sys_tells Sys.TooManySlices = refl
sys_tells Sys.OutOfMemory = tt

call_tells : (fault : CallFault) → Tells (by_call fault)
call_tells (Call.AccessViolation access) = refl
call_tells Call.TooManyAccounts = refl
call_tells Call.DataTooLong = refl
call_tells Call.TooManySigners = refl
call_tells Call.BadSeeds = refl
call_tells Call.BadFlag = refl
call_tells Call.UnitsSpent = refl
call_tells Call.OutOfMemory = tt

rights_tell : (fault : RightsFault) → Tells (by_rights fault)
rights_tell (Rights.MissingAccount i) = refl
rights_tell (Rights.PrivilegeEscalation i) = refl
rights_tell Rights.OutOfMemory = tt

rule_tells : (fault : RuleFault) → Tells (by_rule fault)
rule_tells (Rule.ReadonlyChanged i) = refl
rule_tells (Rule.ExecutableChanged i) = refl
rule_tells (Rule.OwnerChange i) = refl
rule_tells (Rule.ForeignDebit i) = refl
rule_tells (Rule.ForeignData i) = refl
rule_tells (Rule.TooLarge i) = refl
rule_tells Rule.Unbalanced = refl

rule_other : (fault : RuleFault) → Other (by_rule fault)
rule_other (Rule.ReadonlyChanged i) = refl
rule_other (Rule.ExecutableChanged i) = refl
rule_other (Rule.OwnerChange i) = refl
rule_other (Rule.ForeignDebit i) = refl
rule_other (Rule.ForeignData i) = refl
rule_other (Rule.TooLarge i) = refl
rule_other Rule.Unbalanced = refl

system_other : (fault : SystemFault) → Other (by_system fault)
system_other System.InvalidInstruction = refl
system_other System.NotEnoughAccounts = refl
system_other (System.MissingSignature i) = refl
system_other System.InvalidArgument = refl
system_other (System.Custom code) = refl
system_other (System.Rule fault) = rule_other fault
system_other System.OutOfMemory = tt

loader_other : (fault : LoaderFault) → Other (by_loader fault)
loader_other Loader.InvalidInstruction = refl
loader_other Loader.NotEnoughAccounts = refl
loader_other (Loader.MissingSignature i) = refl
loader_other (Loader.Custom code) = refl
loader_other (Loader.Rule fault) = rule_other fault
loader_other Loader.OutOfMemory = tt

-- ---- what a frame leaves
lawful_tells : (f : Running) → IfErr (lawful_accounts f) Tells
unfolding lawful_accounts
lawful_tells f =
    bind_refuses Tells (refuse by_length (back f.machine.context.memory.input.bytes f.start f.before f.metas)) _
    (refuse_tells Tells by_length (back f.machine.context.memory.input.bytes f.start f.before f.metas) (λ i. refl))
    (λ accounts taken. bind_refuses Tells (refuse by_rule (listed_rules f.program f.metas f.before accounts)) _
    (refuse_tells Tells by_rule (listed_rules f.program f.metas f.before accounts) rule_tells)
    (λ passed is. tt))

exited_tells : (r0 : ℕ) → IfErr (exited r0) Tells
unfolding exited
exited_tells r0 = by_test (r0 == 0) (nat_lt r0 custom_zero) (r0 == custom_zero) (Ok tt) tt
  where
    by_test : (a b c : Bool) (done : Result (Unit {0}) Stopped) → IfErr done Tells
        → IfErr (if a then done else if b then Err (at Custom r0) else if c then Err (at Custom 0) else Err
        (plainly InvalidError)) Tells
    by_test true b c done h = h
    by_test false true c done h = refl
    by_test false false true done h = refl
    by_test false false false done h = refl

left_tells : (f : Running) (r0 : ℕ) → IfErr (left f r0) Tells
unfolding left
left_tells f r0 =
    bind_refuses Tells (lawful_accounts f) _ (lawful_tells f)
    (λ accounts is. bind_refuses Tells (exited r0) _ (exited_tells r0) (λ done ended. tt))

start_tells : (most : ℕ) (outer : List Key) (f : Running) (trace : ℕ) (program : Key) → IfErr (may_start most outer f trace program) Tells
unfolding may_start
start_tells most outer f trace program =
    if_refuses Tells (nat_le max_trace trace) (plainly TraceTooLong) _ refl
    (if_refuses Tells (nat_le most (height outer)) (plainly StackHeight) _ refl
    (if_refuses Tells (not (same_key program f.program) && has_key program outer) (plainly Reentrancy) (Ok tt) refl tt))

called_tells : (most : ℕ) (keys outer : List Key) (f : Running) (trace : ℕ) (answer : Result CallRequest CallFault) → IfErr (called most keys outer f trace answer) Tells
unfolding called
called_tells most keys outer f trace answer =
    bind_refuses Tells (refuse by_call answer) _ (refuse_tells Tells by_call answer call_tells)
    (λ request is. bind_refuses Tells (refuse by_rights (rights_of request keys f.metas)) _
    (refuse_tells Tells by_rights (rights_of request keys f.metas) rights_tell)
    (λ granted g. bind_refuses Tells (lawful_accounts f) _ (lawful_tells f)
    (λ accounts a. bind_refuses Tells (may_start most outer f trace request.program) _ (start_tells most outer f trace request.program) (λ may m. tt))))

-- ---- turns: as long as no frame has failed, no stop is told
abbrev NoStop : Carried → Type 0
NoStop c = c.stopped_at ≡ None

abbrev NextTells : Next → Type 0
NextTells (Runs f c) = NoStop c
NextTells (Done e) = TellsStop e

abbrev TurnTells : Turn → Type 0
TurnTells (GoesOn f c) = NoStop c
TurnTells (Calls f c callee units) = NoStop c
TurnTells (Leaves e) = TellsStop e

closes_tells : (outer : List Key) (f : Running) (units : ℕ) (c : Carried) (result : Result (List Account) Stopped) → NoStop c → IfErr result Tells → TellsStop (closes outer f units c result)
closes_tells outer f units c (Ok accounts) none h = none
closes_tells outer f units c (Err (Refused reason)) none h = h
closes_tells outer f units c (Err no_memory) none h = sym (ap tells_access none)

calling_tells : (outer : List Key) (f : Running) (c : Carried) (units : ℕ) (answer : Result Callee Stopped) → NoStop c → IfErr answer Tells → TurnTells (calling outer f c units answer)
calling_tells outer f c units (Ok callee) none h = none
calling_tells outer f c units (Err stopped) none h = closes_tells outer f units c (Err stopped) none h

serving_tells : (outer : List Key) (f : Running) (c : Carried) (units : ℕ) (answer : Result Service SysFault) → NoStop c → TurnTells (serving outer f c units answer)
serving_tells outer f c units (Ok service) none = none
serving_tells outer f c units (Err fault) none = closes_tells outer f units c (Err (by_sys fault)) none (sys_tells fault)

stop_tells : (setting : Setting) (keys outer : List Key) (f : Running) (c : Carried) (stop : Option Stop) → NoStop c → TurnTells (at_stop setting keys outer f c stop)
stop_tells setting keys outer f c None none = closes_tells outer f 0 c (Err (plainly Abort)) none refl
stop_tells setting keys outer f c (Some (Exit r0)) none = closes_tells outer f f.machine.units c (left f r0) none (left_tells f r0)
stop_tells setting keys outer f c (Some (Faulted fault)) none = closes_tells outer f f.machine.units c (Err (by_fault fault)) none (fault_tells fault)
stop_tells setting keys outer f c (Some (Helper number)) none =
    either TurnTells (number == invoke_call) (call_turn setting keys outer f c) (serve_turn setting outer f c number)
    (calling_tells outer f c (requested f).units (called setting.height keys outer f c.trace (requested f).answer) none (called_tells setting.height keys outer f c.trace (requested f).answer))
    (serving_tells outer f c (served setting outer f c number).units (served setting outer f c number).answer none)

run_tells : (setting : Setting) (keys outer : List Key) (f : Running) (c : Carried) (o : Option State) → NoStop c → TurnTells (run_to setting keys outer f c o)
run_tells setting keys outer f c None none = closes_tells outer f 0 c (Err (plainly Abort)) none refl
run_tells setting keys outer f c (Some x) none = stop_tells setting keys outer (record f { machine = x }) c x.stop none

turn_tells : (setting : Setting) (keys outer : List Key) (f : Running) (c : Carried) → NoStop c → TurnTells (turn setting keys outer f c)
unfolding turn
turn_tells setting keys outer f c none = run_tells setting keys outer f c (steps f.machine) none

-- ---- frames at their starts, and after a callee
patching_tells : (outer : List Key) (f : Running) (accounts : List Account) (units : ℕ) (c : Carried) (answer : Result (List ℕ) ℕ) → NoStop c → NextTells (patching outer f accounts units c answer)
patching_tells outer f accounts units c (Ok region) none = none
patching_tells outer f accounts units c (Err i) none = closes_tells outer f units c (Err (by_length i)) none refl

returning_tells : (outer : List Key) (f : Running) (units : ℕ) (c : Carried)
    (result : Result (List Account) InstructionError)
    → TellsStop (record { units = units; carried = c; result = result })
    → NextTells (returning outer f units c result)
returning_tells outer f units c (Ok accounts) h = patching_tells outer f accounts units c (patched f.machine.context.memory.input.bytes f.start accounts f.metas) h
returning_tells outer f units c (Err error) h = h

returned_tells : (outer : List Key) (f : Running) (e : Ending) → TellsStop e → NextTells (returned outer f e)
unfolding returned
returned_tells outer f e h = returning_tells outer f e.units e.carried e.result h

native_row_other : (key : Key) (keys : List Key) (accounts : List Account) (call : CallValue) → IfErr (native_row key keys accounts call) Other
unfolding native_row
native_row_other key keys accounts call =
    either (λ (r : Result (List Account) Stopped). IfErr r Other) (same_key key SYSTEM_PROGRAM) _ _
    (refuse_tells Other by_system (system_row keys accounts call.metas call.input) system_other)
    (either (λ (r : Result (List Account) Stopped). IfErr r Other) (same_key key LOADER_PROGRAM) _ _
    (refuse_tells Other by_loader (loader_row keys accounts call.metas call.input) loader_other) tt)

-- a refusal of another cause, where no stop is told
other_tells : (key : Key) (height units : ℕ) (c : Carried) (result : Result (List Account) Stopped) → NoStop c → IfErr result Other → TellsStop (ending_of key units c (or_error height result))
other_tells key height units c (Ok accounts) none h = none
other_tells key height units c (Err (Refused reason)) none h = h ∙ sym (ap tells_access none)
other_tells key height units c (Err no_memory) none h = sym (ap tells_access none)

native_tells : (key : Key) (outer keys : List Key) (call : CallValue) (accounts : List Account) (units : ℕ) (c : Carried) → NoStop c → TellsStop (native key outer keys call accounts units c)
native_tells key outer keys call accounts units c none =
    either TellsStop (nat_lt units NATIVE_UNITS) _ _ (sym (ap tells_access none))
    (other_tells key (height outer) (units - NATIVE_UNITS) c (native_row key keys accounts call) none (native_row_other key keys accounts call))

entered_tells : (setting : Setting) (keys outer : List Key) (key : Key) (call : CallValue)
    (accounts : List Account) (units : ℕ) (c : Carried) (found : Sought) → NoStop c
    → NextTells (program_started setting keys outer key call accounts units c found)
entered_tells setting keys outer key call accounts units c (IsReady image) none = none
entered_tells setting keys outer key call accounts units c IsAbsent none = sym (ap tells_access none)
entered_tells setting keys outer key call accounts units c IsNoProgram none = sym (ap tells_access none)
entered_tells setting keys outer key call accounts units c IsBad none = sym (ap tells_access none)
entered_tells setting keys outer key call accounts units c (IsUnverified fault) none = sym (ap tells_access none)

crowded_tells : (programs : Key → Sought) (key : Key) (outer : List Key) (units : ℕ) (c : Carried) → NoStop c → TellsStop (crowded programs key outer units c)
unfolding crowded
crowded_tells programs key outer units c none =
    either TellsStop (not (is_native key) && is_ready (programs key)) _ _ (sym (ap tells_access none)) (sym (ap tells_access none))

entering_tells : (s : Fixed) (outer : List Key) (key : Key) (call : CallValue) (accounts : List Account) (units : ℕ) (c : Carried) → NoStop c → NextTells (entering s outer key call accounts units c)
unfolding entering
entering_tells s outer key call accounts units c none =
    either NextTells (nat_lt max_metas (length call.metas)) _ _ (crowded_tells s.programs key outer units c none)
    (either NextTells (is_native key) _ _ (native_tells key outer s.keys call accounts units c none) (entered_tells s.setting s.keys outer key call accounts units c (s.programs key) none))

begun_tells : (s : Fixed) (outer : List Key) (call : CallValue) (accounts : List Account) (units : ℕ) (c : Carried) → NoStop c → NextTells (begun s outer call accounts units c)
unfolding begun
begun_tells s outer call accounts units c none = entering_tells s outer (key_at s.keys call.program) call accounts units (started (key_at s.keys call.program) (height outer) c) none

-- ---- whole frames
abbrev AllTell : (List Key → Running → Carried → Ending) → Type 0
AllTell goo = (outer : List Key) (f : Running) (c : Carried) → NoStop c → TellsStop (goo outer f c)

after_tells : (outer : List Key) (goo : List Key → Running → Carried → Ending) (next : Next) → AllTell goo → NextTells next → TellsStop (after outer goo next)
after_tells outer goo (Runs f c) all h = all outer f c h
after_tells outer goo (Done e) all h = h

follow_tells : (s : Fixed) (outer : List Key) (goo : List Key → Running → Carried → Ending) (t : Turn) → AllTell goo → TurnTells t → TellsStop (follow s outer goo t)
follow_tells s outer goo (GoesOn f c) all h = all outer f c h
follow_tells s outer goo (Calls f c callee left) all h =
    let inner : List Key = f.program ∷ outer in
    let next : Next = begun s inner callee.call callee.accounts left c in
    let e : Ending = after inner goo next in
    after_tells outer goo (returned outer f e) all (returned_tells outer f e (after_tells inner goo next all (begun_tells s inner callee.call callee.accounts left c h)))
follow_tells s outer goo (Leaves e) all h = h

within_tells : (s : Fixed) (n : ℕ) → AllTell (within s n)
unfolding within
within_tells s zero outer f c none = sym (ap tells_access none)
within_tells s (suc n) outer f c none = follow_tells s outer (within s n) (turn s.setting s.keys outer f c) (within_tells s n) (turn_tells s.setting s.keys outer f c none)

-- what an instruction tells of its stop
pub instruction-tells : (s : Fixed) (call : CallValue) (accounts : List Account) (units trace : ℕ) (log : Log) → TellsStop (instruction s call accounts units trace log)
instruction-tells s call accounts units trace log =
    either TellsStop (nat_le max_trace trace)
    (record {
      units = units;
      carried = nothing_returned trace log;
      result = Err
          (error_of 1 (plainly TraceTooLong));
    }) (frame s [] call accounts units (nothing_returned trace log))
    refl
    (after_tells [] (go s) (begun s [] call accounts units (nothing_returned trace log))
    (λ outer f c none. within_tells s (suc f.machine.units) outer f c none)
    (begun_tells s [] call accounts units (nothing_returned trace log) refl))

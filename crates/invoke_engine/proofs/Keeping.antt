-- What turns keep: frames stay as they have to be, and what they hand out fits.
use Rattle.sbpf_isa.specs.Calls.{invoke_call}
use Rattle.std.proofs.Common.{◌≡◌, ◌<◌, ◌==◌, ◌+◌, ℕ, zero, suc, length, Bool, true, false, List, [], ◌∷◌, Option, Some, None, Result, Ok, Err, refl, ap, sym, subst, ◌∙◌, arith, slice_get, if◌then◌else◌}
use Rattle.std.specs.Prelude.{map, nat_le}
use Rattle.std.specs.List.{enumerate_from}
use Rattle.std.proofs.lemmas.Bool.Decides.{nat_tests}
use Rattle.std.proofs.lemmas.List.{length-map}
use Rattle.std.proofs.lemmas.List.FromFn.{length-enumerate_from}
use Rattle.spec_base.proofs.Binding.{bind_ok}
use Rattle.sol_base.specs.declared.key.Key.{Key}
use Rattle.sol_base.specs.declared.key.TheConstants.{SYSTEM_PROGRAM, LOADER_PROGRAM}
use Rattle.sol_base.specs.declared.account.Account.{Account}
use Rattle.sol_base.specs.declared.lock.Meta.{Meta}
use Rattle.sol_base.specs.Keys.{same_key}
use Rattle.sol_base.specs.Metas.{AreInRange, SameUnlessListed, is_listed, is_listed_writable}
use Rattle.account_rules.specs.AccountRules.{listed_rules}
use Rattle.account_rules.specs.KeptAccounts.{AreKeptBy}
use Rattle.account_rules.proofs.KeptLaws.{AreKeptBy-refl, AreKeptBy-listed_rules}
use Rattle.tx_report.specs.declared.cause.Cause.TheVariants.{TraceTooLong, StackHeight}
use Rattle.sbpf_machine.specs.Steps.{State, steps, IsHelper, arguments_in}
use Rattle.sbpf_machine.specs.Keeping.{Keeps}
use Rattle.sbpf_machine.specs.declared.stop.Stop.{Stop}
use Rattle.sbpf_machine.specs.declared.stop.Stop.TheVariants.{Exit, Helper, Fault as Faulted}
use Rattle.sbpf_machine.proofs.Keeping.{steps_keep}
use Rattle.abi_input.specs.Region.{account_back, back, unless_found}
use Rattle.sys_calls.specs.SysCalls.{Service, IsServedMemory}
use Rattle.sys_calls.specs.declared.fault.SysFault.{SysFault}
use Rattle.sys_calls.proofs.Rows.{sys_row-memory}
use Rattle.cpi_calls.specs.Calls.{IsSmallRequest}
use Rattle.cpi_calls.specs.Rights.{IsWithin, rights_of}
use Rattle.cpi_calls.specs.declared.request.CallRequest.{CallRequest}
use Rattle.cpi_calls.specs.declared.fault.CallFault.{CallFault}
use Rattle.cpi_calls.specs.declared.grant.Granted.{Granted}
use Rattle.cpi_calls.proofs.Requests.{request-small}
use Rattle.cpi_calls.proofs.Within.{rights-within}
use Rattle.system_prog.specs.SystemProgram.{system_row}
use Rattle.system_prog.proofs.Keeping.{system_keeps}
use Rattle.loader_prog.specs.Loader.{loader_row}
use Rattle.loader_prog.proofs.Keeping.{loader_keeps}
use Rattle.invoke_engine.specs.declared.call.Call.{Call}
use Rattle.invoke_engine.specs.declared.call.Setting.{Setting}
use Rattle.invoke_engine.specs.declared.stopped.Stopped.{Stopped}
use Rattle.invoke_engine.specs.Reasons.{plainly, refuse, by_length, by_rule, by_call, by_rights, by_system, by_loader}
use Rattle.invoke_engine.specs.Frames.{Carried, Running, Callee, height, max_trace}
use Rattle.invoke_engine.specs.Endings.{closes}
use Rattle.invoke_engine.specs.Leaving.{lawful_accounts, left, exited}
use Rattle.invoke_engine.specs.Calling.{may_start, called, callee_of, calling, requested, call_turn}
use Rattle.invoke_engine.specs.Serving.{serving, served, serve_turn, env_of}
use Rattle.invoke_engine.specs.Turns.{at_stop, run_to, turn}
use Rattle.invoke_engine.specs.Native.{native_row}
use Rattle.invoke_engine.specs.Conditions.{AreAccountsOf, IsFrame, IsSuspended, EndingFits, CallFits, TurnFits}
use Rattle.invoke_engine.specs.FrameLaws.{AreListed}
use Rattle.invoke_engine.proofs.Fuel.{either}

-- a run keeps what holds of a frame
pub run_keeps : (n : ℕ) (f : Running) (y : State) → IsFrame n f → steps f.machine ≡ Some y → IsFrame n (record f { machine = y })
run_keeps n f y h s =
    let k : Keeps f.machine y = steps_keep f.machine y s in
    record { most = h.most; range = h.range; start = h.start; before = h.before; region = omega (arith, h.region, k.ranges.input) }

-- a value that was not refused
pub refuse_ok : {A E : Type 0} (by : E → Stopped) (r : Result A E) (x : A) → refuse by r ≡ Ok x → r ≡ Ok x
refuse_ok by (Ok y) x h = let e : y ≡ x = cc in ap Ok e
refuse_ok by (Err e) x h = absurd (cc)

-- ---- accounts as a frame leaves them
unfound : {X : Type 0} (found : Option (ℕ × Meta)) (value x : X) → unless_found found value ≡ Ok x → value ≡ x
unfound None value x h = cc
unfound (Some item) value x h = absurd (cc)

-- what is taken back, where nothing is too long
taken : (region : List ℕ) (start now : List Account) (metas : List Meta) (after : List Account)
    → back region start now metas ≡ Ok after
    → map (account_back region start metas) (enumerate_from 0 now) ≡ after
unfolding back
taken region start now metas after h = unfound _ _ after h

pub back_count : (region : List ℕ) (start now : List Account) (metas : List Meta) (after : List Account) → back region start now metas ≡ Ok after → length after ≡ length now
back_count region start now metas after h =
    ap length (sym (taken region start now metas after h)) ∙ length-map (enumerate_from 0 now) (account_back region start metas) ∙ length-enumerate_from 0 now

if_false : {X : Type 0} (b : Bool) (x y : X) → b ≡ false → (if b then x else y) ≡ y
if_false true x y h = absurd (cc)
if_false false x y h = refl

-- the account at a place, counted from another place on, where the list does not name it
other_at : (region : List ℕ) (start : List Account) (metas : List Meta) (from place : ℕ) (now : List Account) → is_listed metas (from + place) ≡ false →
    slice_get (map (account_back region start metas) (enumerate_from from now)) place ≡ slice_get now place
other_at region start metas from place [] h = refl
other_at region start metas from zero (x ∷ xs) h =
    let at : is_listed metas from ≡ false = subst (λ n. is_listed metas n ≡ false) (omega arith) h in
    ap Some (if_false (is_listed metas from) _ x at)
other_at region start metas from (suc place) (x ∷ xs) h =
    other_at region start metas (from + 1) place xs (subst (λ n. is_listed metas n ≡ false) (omega arith) h)

pub back_others : (region : List ℕ) (start now : List Account) (metas : List Meta) (after : List Account) → back region start now metas ≡ Ok after → SameUnlessListed metas now after
back_others region start now metas after h place other =
    ap (λ (accounts : List Account). slice_get accounts place) (sym (taken region start now metas after h))
    ∙ other_at region start metas 0 place now (subst (λ n. is_listed metas n ≡ false) (omega arith) other)

-- accounts that are not listed stay, by equal lists
pub same_others : (metas metas' : List Meta) (now now' after after' : List Account) → metas ≡ metas'
    → now ≡ now' → after ≡ after' → SameUnlessListed metas now after → SameUnlessListed metas' now' after'
same_others metas metas' now now' after after' e f g h =
    subst (λ (ms : List Meta). SameUnlessListed ms now' after') e (subst (λ (xs : List Account). SameUnlessListed metas xs after') f (subst (λ (xs : List Account). SameUnlessListed metas now xs) g h))

pub in_range : (n m : ℕ) (metas : List Meta) → m ≡ n → AreInRange n metas → AreInRange m metas
in_range n m metas e h = subst (λ k. AreInRange k metas) (sym e) h

-- accounts that are kept fit
pub kept_given : (n : ℕ) (may_write : ℕ → Bool) (before after : List Account) → AreAccountsOf n before → AreKeptBy may_write before after → AreAccountsOf n after
kept_given n may_write before after g k = record { count = k.count ∙ g.count; short = k.short g.short; supply = rw k.lamports g.supply }

-- where the accounts of a frame come from that leaves them
pub record Settles (f : Running) (after : List Account) : Type 0 where
  pub taken : back f.machine.context.memory.input.bytes f.start f.before f.metas ≡ Ok after
  pub rules : listed_rules f.program f.metas f.before after ≡ Ok tt

pub settles : (f : Running) (after : List Account) → lawful_accounts f ≡ Ok after → Settles f after
unfolding lawful_accounts
settles f after h =
    let one = bind_ok (refuse by_length (back f.machine.context.memory.input.bytes f.start f.before f.metas)) _ after h in
    let two = bind_ok (refuse by_rule (listed_rules f.program f.metas f.before one.0)) _ after one.2 in
    let same : one.0 ≡ after = cc two.2 in
    let come : back f.machine.context.memory.input.bytes f.start f.before f.metas ≡ Ok one.0 = refuse_ok by_length _ one.0 one.1 in
    let passed : listed_rules f.program f.metas f.before one.0 ≡ Ok tt = refuse_ok by_rule _ tt two.1 in
    subst (Settles f) same (record { taken = come; rules = passed })

-- what a frame leaves is kept since its last call
pub settled_keeps : (n : ℕ) (f : Running) (after : List Account) → AreListed n f.metas f.before → lawful_accounts f ≡ Ok after → AreKeptBy (is_listed_writable f.metas) f.before after
settled_keeps n f after listed h =
    let from : Settles f after = settles f after h in
    AreKeptBy-listed_rules f.program f.metas f.before after (back_count _ _ _ _ after from.taken)
    (in_range n (length f.before) f.metas listed.count listed.range) (back_others _ _ _ _ after from.taken)
    from.rules

-- a good exit leaves the accounts so
pub left_settled : (f : Running) (r0 : ℕ) (after : List Account) → left f r0 ≡ Ok after → lawful_accounts f ≡ Ok after
unfolding left
left_settled f r0 after h =
    let one = bind_ok (lawful_accounts f) _ after h in
    let two = bind_ok (exited r0) _ after one.2 in
    let same : one.0 ≡ after = cc two.2 in
    one.1 ∙ ap Ok same

-- what a native program leaves is kept
pub native_row_keeps : (n : ℕ) (key : Key) (keys : List Key) (accounts : List Account) (call : Call)
    (after : List Account) → AreListed n call.metas accounts → native_row key keys accounts call ≡ Ok after
    → AreKeptBy (is_listed_writable call.metas) accounts after
unfolding native_row
native_row_keeps n key keys accounts call after listed h = by_tests (same_key key SYSTEM_PROGRAM) (same_key key LOADER_PROGRAM) h
  where
    range : AreInRange (length accounts) call.metas
    range = in_range n (length accounts) call.metas listed.count listed.range

    by_tests : (a b : Bool) → (if a then refuse by_system (system_row keys accounts call.metas call.input) else
        if b then refuse by_loader (loader_row keys accounts call.metas call.input) else Ok accounts) ≡ Ok after
        → AreKeptBy (is_listed_writable call.metas) accounts after
    by_tests true b g = system_keeps keys accounts call.metas call.input after range (refuse_ok by_system _ after g)
    by_tests false true g = loader_keeps keys accounts call.metas call.input after range (refuse_ok by_loader _ after g)
    by_tests false false g = let same : accounts ≡ after = cc in subst (AreKeptBy (is_listed_writable call.metas) accounts) same (AreKeptBy-refl (is_listed_writable call.metas) accounts)

-- ---- callees
-- where the request, the rights and the accounts of a callee come from
pub record ComesFrom (most : ℕ) (keys outer : List Key) (f : Running) (trace : ℕ) (answer : Result CallRequest CallFault) (callee : Callee) : Type 0 where
  pub request : CallRequest
  pub granted : Granted
  pub accounts : List Account
  pub asked : answer ≡ Ok request
  pub rights : rights_of request keys f.metas ≡ Ok granted
  pub left : lawful_accounts f ≡ Ok accounts
  pub start : may_start most outer f trace request.program ≡ Ok tt
  pub is : callee_of request granted accounts ≡ callee

pub called_from : (most : ℕ) (keys outer : List Key) (f : Running) (trace : ℕ)
    (answer : Result CallRequest CallFault) (callee : Callee)
    → called most keys outer f trace answer ≡ Ok callee → ComesFrom most keys outer f trace answer callee
unfolding called
called_from most keys outer f trace answer callee h =
    let one = bind_ok (refuse by_call answer) _ callee h in
    let two = bind_ok (refuse by_rights (rights_of one.0 keys f.metas)) _ callee one.2 in
    let three = bind_ok (lawful_accounts f) _ callee two.2 in
    let four = bind_ok (may_start most outer f trace one.0.program) _ callee three.2 in
    record {
      request = one.0;
      granted = two.0;
      accounts = three.0;
      asked = refuse_ok by_call answer one.0 one.1;
      rights = refuse_ok by_rights _ two.0 two.1;
      left = three.1;
      start = four.1;
      is = cc four.2;
    }

started_ok : (most : ℕ) (outer : List Key) (f : Running) (trace : ℕ) (program : Key) → may_start most outer f trace program ≡ Ok tt → (trace < max_trace) × (height outer < most)
unfolding may_start
started_ok most outer f trace program h = tests (nat_le max_trace trace) (nat_le most (height outer)) _ refl refl h
  where
    tests : (a b : Bool) (rest : Result (Unit {0}) Stopped) → nat_le max_trace trace ≡ a
        → nat_le most (height outer) ≡ b
        → (if a then Err (plainly TraceTooLong) else if b then Err (plainly StackHeight) else rest) ≡ Ok tt
        → (trace < max_trace) × (height outer < most)
    tests true b rest h k l = absurd (cc)
    tests false true rest h k l = absurd (cc)
    tests false false rest h k l = (grind (arith, nat_tests), grind (arith, nat_tests))

callee_fits : (most : ℕ) (keys outer : List Key) (f : Running) (c : Carried) (callee : Callee)
    → IsSuspended (length keys) f → ComesFrom most keys outer f c.trace (requested f).answer callee
    → CallFits (length keys) most outer f c callee
callee_fits most keys outer f c callee h from =
    let within : IsWithin from.request keys f.metas from.granted = rights-within from.request keys f.metas from.granted from.rights in
    let small : IsSmallRequest from.request = request-small _ _ _ _ from.request from.asked in
    let started = started_ok most outer f c.trace from.request.program from.start in
    let listed : AreListed (length keys) f.metas f.before = record { count = h.frame.before.count; range = h.frame.range } in
    subst (CallFits (length keys) most outer f c) from.is (record {
      suspended = h;
      call = record { program = within.program; range = within.range; input = omega (arith, small.input) };
      accounts = kept_given (length keys) (is_listed_writable f.metas) f.before from.accounts h.frame.before (settled_keeps (length keys) f from.accounts listed from.left);
      trace = started.0;
      height = started.1;
    })

-- ---- turns
calling_fits : (n most : ℕ) (outer : List Key) (f : Running) (c : Carried) (units : ℕ)
    (result : Result Callee Stopped)
    → ((callee : Callee) → result ≡ Ok callee → CallFits n most outer f c callee)
    → TurnFits n most outer (calling outer f c units result)
calling_fits n most outer f c units (Ok callee) k = k callee refl
calling_fits n most outer f c units (Err stopped) k = tt

serving_fits : (n most : ℕ) (outer : List Key) (f : Running) (c : Carried) (units : ℕ)
    (result : Result Service SysFault) → IsFrame n f
    → ((service : Service) → result ≡ Ok service → IsServedMemory f.machine.context.memory service.memory)
    → TurnFits n most outer (serving outer f c units result)
serving_fits n most outer f c units (Ok service) h k =
    let m : IsServedMemory f.machine.context.memory service.memory = k service refl in
    record { most = h.most; range = h.range; start = h.start; before = h.before; region = omega (arith, h.region, m.input) }
serving_fits n most outer f c units (Err fault) h k = tt

leaving_fits : (n : ℕ) (outer : List Key) (f : Running) (c : Carried) (units : ℕ)
    (result : Result (List Account) Stopped)
    → ((accounts : List Account) → result ≡ Ok accounts → AreAccountsOf n accounts)
    → EndingFits n (closes outer f units c result)
leaving_fits n outer f c units (Ok accounts) k = k accounts refl
leaving_fits n outer f c units (Err stopped) k = tt

exit_fits : (n : ℕ) (f : Running) (r0 : ℕ) (accounts : List Account) → IsFrame n f → left f r0 ≡ Ok accounts → AreAccountsOf n accounts
exit_fits n f r0 accounts h k =
    let listed : AreListed n f.metas f.before = record { count = h.before.count; range = h.range } in
    kept_given n (is_listed_writable f.metas) f.before accounts h.before (settled_keeps n f accounts listed (left_settled f r0 accounts k))

stop_fits : (setting : Setting) (keys outer : List Key) (f : Running) (c : Carried) (stop : Option Stop)
    → f.machine.stop ≡ stop → IsFrame (length keys) f
    → TurnFits (length keys) setting.height outer (at_stop setting keys outer f c stop)
stop_fits setting keys outer f c None e h = tt
stop_fits setting keys outer f c (Some (Exit r0)) e h =
    leaving_fits (length keys) outer f c f.machine.units (left f r0) (λ accounts k. exit_fits (length keys) f r0 accounts h k)
stop_fits setting keys outer f c (Some (Faulted fault)) e h = tt
stop_fits setting keys outer f c (Some (Helper number)) e h =
    let helper : IsHelper f.machine.stop = subst IsHelper (sym e) tt in
    either (TurnFits (length keys) setting.height outer) (number == invoke_call) (call_turn setting keys outer f c) (serve_turn setting outer f c number)
    (calling_fits (length keys) setting.height outer f c (requested f).units _
    (λ callee k. callee_fits setting.height keys outer f c callee (record { frame = h; helper = helper }) (called_from setting.height keys outer f c.trace (requested f).answer callee k)))
    (serving_fits (length keys) setting.height outer f c (served setting outer f c number).units _ h
    (λ service k. sys_row-memory number (arguments_in f.machine.context.registers) f.machine.context.memory (env_of setting outer f c) service k))

ran_fits : (setting : Setting) (keys outer : List Key) (f : Running) (c : Carried) (o : Option State)
    → steps f.machine ≡ o → IsFrame (length keys) f
    → TurnFits (length keys) setting.height outer (run_to setting keys outer f c o)
ran_fits setting keys outer f c None e h = tt
ran_fits setting keys outer f c (Some y) e h = stop_fits setting keys outer (record f { machine = y }) c y.stop refl (run_keeps (length keys) f y h e)

-- a turn of a frame that is as it has to be
pub turn_fits : (setting : Setting) (keys outer : List Key) (f : Running) (c : Carried) → IsFrame (length keys) f → TurnFits (length keys) setting.height outer (turn setting keys outer f c)
unfolding turn
turn_fits setting keys outer f c h = ran_fits setting keys outer f c (steps f.machine) refl h

-- Frames, and the frames that they call, leave accounts whose owners have 32 bytes each.
use Rattle.std.proofs.Common.{◌≡◌, ◌-◌, ◌<◌, ◌≤◌, ◌==◌, ℕ, zero, suc, Bool, true, false, not, ◌&&◌, List, [], ◌∷◌, length, Option, Some, None, Result, Ok, Err, refl, sym, ap, subst, arith, nat_lt, nat_le, slice_get}
use Rattle.std.specs.Prelude.{MatchResult, if◌then◌else◌, unwrap_or}
use Rattle.std.proofs.lemmas.Bool.{cond_both}
use Rattle.std.proofs.lemmas.Bool.Decides.{nat_tests}
use Rattle.std.proofs.lemmas.List.Sums.{get_or-le-sum_by}
use Rattle.std.proofs.lemmas.List.Elements.{All-from_recursion, All-get_or}
use Rattle.std.proofs.lemmas.Option.{slice_get-get_or}
use Rattle.sol_base.specs.declared.account.Account.{Account}
use Rattle.sol_base.specs.declared.key.Key.{Key}
use Rattle.sol_base.specs.declared.key.TheConstants.{LOADER_PROGRAM, SYSTEM_PROGRAM}
use Rattle.sol_base.specs.declared.lock.Meta.{Meta}
use Rattle.sol_base.specs.Accounts.{empty_account}
use Rattle.sol_base.specs.Keys.{IsKey, same_key}
use Rattle.sol_base.specs.Metas.{AreInRange}
use Rattle.tx_report.specs.LogLines.{Log}
use Rattle.tx_report.specs.declared.status.InstructionError.{InstructionError}
use Rattle.sbpf_isa.specs.Calls.{invoke_call}
use Rattle.sbpf_machine.specs.Steps.{State, steps}
use Rattle.sbpf_machine.specs.declared.stop.Stop.{Stop}
use Rattle.sbpf_machine.specs.declared.stop.Stop.TheVariants.{Exit, Fault as Faulted, Helper}
use Rattle.abi_input.specs.Region.{account_in, input_of, max_metas, patched}
use Rattle.abi_input.specs.Widths.{AreKeys, HasWidths, HaveWidths}
use Rattle.abi_input.proofs.Entries.{index_in}
use Rattle.abi_input.proofs.RoundTrips.{long_enough}
use Rattle.sys_calls.specs.SysCalls.{Service}
use Rattle.sys_calls.specs.declared.fault.SysFault.{SysFault}
use Rattle.system_prog.specs.SystemProgram.{system_row}
use Rattle.loader_prog.specs.Loader.{loader_row}
use Rattle.program_cache.specs.Ready.{ReadyImage}
use Rattle.program_cache.specs.Programs.{IsAbsent, IsBad, IsNoProgram, IsReady, IsUnverified, Sought}
use Rattle.invoke_engine.specs.declared.call.Call.{Call}
use Rattle.invoke_engine.specs.declared.call.Setting.{Setting}
use Rattle.invoke_engine.specs.declared.stopped.Stopped.{Stopped}
use Rattle.invoke_engine.specs.Reasons.{by_loader, by_system, refuse}
use Rattle.invoke_engine.specs.Endings.{closes, or_error}
use Rattle.invoke_engine.specs.Leaving.{lawful_accounts, left}
use Rattle.invoke_engine.specs.Calling.{call_turn, called, calling, requested}
use Rattle.invoke_engine.specs.Serving.{serve_turn, served, serving}
use Rattle.invoke_engine.specs.Turns.{at_stop, run_to, turn}
use Rattle.invoke_engine.specs.Native.{is_native, native, native_row}
use Rattle.invoke_engine.specs.Starting.{begun, crowded, entering, first_running, is_ready, key_at, program_started, started}
use Rattle.invoke_engine.specs.Returning.{patching, returned, returning}
use Rattle.invoke_engine.specs.Conditions.{AreAccountsOf, EndingFits, IsFrame, TurnFits}
use Rattle.invoke_engine.specs.declared.ending.Callee.{Callee}
use Rattle.invoke_engine.specs.Frames.{height, max_trace}
use Rattle.invoke_engine.specs.Frame.{Calls, Carried, Done, Ending, Fixed, GoesOn, Leaves, Next, Running, Runs, Turn, after, follow, frame, go, instruction, nothing_returned, within}
use Rattle.invoke_engine.proofs.Begins.{DoneFits, begun_fits, returned_fits}
use Rattle.invoke_engine.proofs.Fuel.{either}
use Rattle.invoke_engine.proofs.Keeping.{ComesFrom, called_from, left_settled, refuse_ok, run_keeps, settles, turn_fits}
use Rattle.width_laws.proofs.Owned.{AreOwned, LeavesOwned, loader_owned, system_owned}
use Rattle.width_laws.proofs.Regions.{back_owned, patched_region}

-- ---- accounts that fit have their widths
pub have_widths : (n : ℕ) (accounts : List Account) → AreAccountsOf n accounts → AreOwned accounts → HaveWidths accounts
have_widths n accounts given owned i d l =
    let most = get_or-le-sum_by (λ (account : Account). account.lamports) accounts i d l in
    let all = given.supply in
    record { owner_is_key = All-from_recursion (λ (account : Account). IsKey account.owner) accounts owned i d l; lamports_fit = omega (arith, most, all); is_short = given.short i d l }

widths_of_meta : (accounts : List Account) (metas : List Meta) → AreInRange (length accounts) metas → HaveWidths accounts → (k : ℕ) (meta : Meta) → slice_get metas k ≡ Some meta
    → HasWidths (account_in accounts meta.index)
widths_of_meta accounts metas range have k meta e =
    let lt : meta.index < length accounts = index_in (length accounts) metas k meta range e in
    subst HasWidths (sym (ap (λ (o : Option Account). unwrap_or o empty_account) (slice_get-get_or accounts meta.index empty_account lt)))
    (All-get_or HasWidths accounts meta.index empty_account lt have)

range_of : (n m : ℕ) (metas : List Meta) → m ≡ n → AreInRange n metas → AreInRange m metas
range_of n m metas e h = subst (λ k. AreInRange k metas) (sym e) h

-- ---- what a turn leaves
abbrev pub EndsOwned : Ending → Type 0
EndsOwned e = MatchResult e.result AreOwned (λ _. Unit {0})

abbrev TurnOwned : Turn → Type 0
TurnOwned (GoesOn f c) = AreOwned f.before
TurnOwned (Calls f c callee units) = AreOwned f.before × AreOwned callee.accounts
TurnOwned (Leaves e) = EndsOwned e

lawful_owned : (n : ℕ) (f : Running) → IsFrame n f → AreOwned f.before → LeavesOwned (lawful_accounts f)
lawful_owned n f is owned after h = back_owned f.machine.context.memory.input.bytes f.start f.before f.metas after is.region owned (settles f after h).taken

calling_owned : (outer : List Key) (f : Running) (c : Carried) (units : ℕ) (result : Result Callee Stopped) → AreOwned f.before
    → ((callee : Callee) → result ≡ Ok callee → AreOwned callee.accounts) → TurnOwned (calling outer f c units result)
calling_owned outer f c units (Ok callee) owned k = (owned, k callee refl)
calling_owned outer f c units (Err stopped) owned k = tt

serving_owned : (outer : List Key) (f : Running) (c : Carried) (units : ℕ) (result : Result Service SysFault) → AreOwned f.before → TurnOwned (serving outer f c units result)
serving_owned outer f c units (Ok service) owned = owned
serving_owned outer f c units (Err fault) owned = tt

leaving_owned : (outer : List Key) (f : Running) (c : Carried) (units : ℕ) (result : Result (List Account) Stopped) → LeavesOwned result → EndsOwned (closes outer f units c result)
leaving_owned outer f c units (Ok accounts) k = k accounts refl
leaving_owned outer f c units (Err stopped) k = tt

stop_owned : (setting : Setting) (keys outer : List Key) (f : Running) (c : Carried) (stop : Option Stop) → IsFrame (length keys) f → AreOwned f.before
    → TurnOwned (at_stop setting keys outer f c stop)
stop_owned setting keys outer f c None is owned = tt
stop_owned setting keys outer f c (Some (Exit r0)) is owned =
    leaving_owned outer f c f.machine.units (left f r0) (λ accounts h. lawful_owned (length keys) f is owned accounts (left_settled f r0 accounts h))
stop_owned setting keys outer f c (Some (Faulted fault)) is owned = tt
stop_owned setting keys outer f c (Some (Helper number)) is owned =
    either TurnOwned (number == invoke_call) (call_turn setting keys outer f c) (serve_turn setting outer f c number)
    (calling_owned outer f c (requested f).units (called setting.height keys outer f c.trace (requested f).answer) owned
    (λ callee h. from_caller callee (called_from setting.height keys outer f c.trace (requested f).answer callee h)))
    (serving_owned outer f c (served setting outer f c number).units (served setting outer f c number).answer owned)
  where
    from_caller : (callee : Callee) → ComesFrom setting.height keys outer f c.trace (requested f).answer callee → AreOwned callee.accounts
    from_caller callee from = subst (λ (x : Callee). AreOwned x.accounts) from.is (lawful_owned (length keys) f is owned from.accounts from.left)

run_owned : (setting : Setting) (keys outer : List Key) (f : Running) (c : Carried) (o : Option State) → steps f.machine ≡ o → IsFrame (length keys) f → AreOwned f.before
    → TurnOwned (run_to setting keys outer f c o)
run_owned setting keys outer f c None e is owned = tt
run_owned setting keys outer f c (Some y) e is owned = stop_owned setting keys outer (record f { machine = y }) c y.stop (run_keeps (length keys) f y is e) owned

turn_owned : (setting : Setting) (keys outer : List Key) (f : Running) (c : Carried) → IsFrame (length keys) f → AreOwned f.before → TurnOwned (turn setting keys outer f c)
unfolding turn
turn_owned setting keys outer f c is owned = run_owned setting keys outer f c (steps f.machine) refl is owned

-- ---- what is next
abbrev NextOwned : ℕ → Next → Type 0
NextOwned n (Runs f c) = IsFrame n f × AreOwned f.before
NextOwned n (Done e) = EndsOwned e

abbrev EndsWell : ℕ → Ending → Type 0
EndsWell n e = EndingFits n e × EndsOwned e

abbrev NextWell : ℕ → Next → Type 0
NextWell n (Runs f c) = IsFrame n f × AreOwned f.before
NextWell n (Done e) = EndsWell n e

next_well : (n : ℕ) (next : Next) → DoneFits n next → NextOwned n next → NextWell n next
next_well n (Runs f c) fits owned = owned
next_well n (Done e) fits owned = (fits, owned)

or_error_owned : (units : ℕ) (c : Carried) (height : ℕ) (result : Result (List Account) Stopped) → LeavesOwned result
    → (let e : Ending = record { units = units; carried = c; result = or_error height result } in EndsOwned e)
or_error_owned units c height (Ok after) k = k after refl
or_error_owned units c height (Err stopped) k = tt

native_row_owned : (key : Key) (keys : List Key) (accounts : List Account) (call : Call) → AreOwned accounts → LeavesOwned (native_row key keys accounts call)
unfolding native_row
native_row_owned key keys accounts call owned after h = by_tests (same_key key SYSTEM_PROGRAM) (same_key key LOADER_PROGRAM) h
  where
    by_tests : (a b : Bool) → (if a then refuse by_system (system_row keys accounts call.metas call.input) else
        if b then refuse by_loader (loader_row keys accounts call.metas call.input) else Ok accounts) ≡ Ok after → AreOwned after
    by_tests true b g = system_owned keys accounts call.metas call.input owned after (refuse_ok by_system _ after g)
    by_tests false true g = loader_owned keys accounts call.metas call.input owned after (refuse_ok by_loader _ after g)
    by_tests false false g = let same : accounts ≡ after = cc in subst AreOwned same owned

-- the units of a native program (Solana)
abbrev native_units : ℕ
native_units = 150

native_owned : (key : Key) (outer keys : List Key) (call : Call) (accounts : List Account) (units : ℕ) (c : Carried) → AreOwned accounts → EndsOwned (native key outer keys call accounts units c)
native_owned key outer keys call accounts units c owned =
    either EndsOwned (nat_lt units native_units) _ _ tt
    (or_error_owned (units - native_units) c (height outer) (native_row key keys accounts call) (native_row_owned key keys accounts call owned))

crowded_owned : (s : Fixed) (key : Key) (outer : List Key) (units : ℕ) (c : Carried) → EndsOwned (crowded s.programs key outer units c)
unfolding crowded
crowded_owned s key outer units c = either EndsOwned (not (is_native key) && is_ready (s.programs key)) _ _ tt tt

module _ (s : Fixed) (are_keys : AreKeys s.keys) where
  abbrev n : ℕ
  n = length s.keys

  first_frame : (key : Key) (image : ReadyImage) (call : Call) (accounts : List Account) (units : ℕ) → length call.metas ≤ max_metas → AreInRange n call.metas → AreAccountsOf n accounts
      → AreOwned accounts
      → IsFrame n (first_running s.setting s.keys key image call accounts units)
  first_frame key image call accounts units most range given owned = record {
    most = most;
    range = range;
    start = given.count;
    before = given;
    region = long_enough s.keys accounts call.metas given.count (range_of n (length accounts) call.metas given.count range) are_keys (have_widths n accounts given owned)
        (input_of s.keys accounts call.metas call.input key) call.input key refl;
  }

  entered_owned : (outer : List Key) (key : Key) (call : Call) (accounts : List Account) (units : ℕ) (c : Carried) (found : Sought) → length call.metas ≤ max_metas → AreInRange n call.metas
      → AreAccountsOf n accounts → AreOwned accounts → NextOwned n (program_started s.setting s.keys outer key call accounts units c found)
  entered_owned outer key call accounts units c (IsReady image) most range given owned = (first_frame key image call accounts units most range given owned, owned)
  entered_owned outer key call accounts units c IsAbsent most range given owned = tt
  entered_owned outer key call accounts units c IsNoProgram most range given owned = tt
  entered_owned outer key call accounts units c IsBad most range given owned = tt
  entered_owned outer key call accounts units c (IsUnverified fault) most range given owned = tt

  few_metas : (metas : List Meta) → nat_lt max_metas (length metas) ≡ false → length metas ≤ max_metas
  few_metas metas e = grind (arith, nat_tests)

  begun_owned : (outer : List Key) (call : Call) (accounts : List Account) (units : ℕ) (c : Carried) → AreInRange n call.metas → AreAccountsOf n accounts → AreOwned accounts
      → NextOwned n (begun s outer call accounts units c)
  unfolding begun entering
  begun_owned outer call accounts units c range given owned =
      let key = key_at s.keys call.program in
      let d = started key (height outer) c in
      cond_both (nat_lt max_metas (length call.metas)) _ _ (NextOwned n) (λ _. crowded_owned s key outer units d)
      (λ e. either (NextOwned n) (is_native key) _ _ (native_owned key outer s.keys call accounts units d owned)
      (entered_owned outer key call accounts units d (s.programs key) (few_metas call.metas e) range given owned))

  begun_well : (outer : List Key) (call : Call) (accounts : List Account) (units : ℕ) (c : Carried) → AreInRange n call.metas → AreAccountsOf n accounts → AreOwned accounts
      → NextWell n (begun s outer call accounts units c)
  begun_well outer call accounts units c range given owned =
      next_well n (begun s outer call accounts units c) (begun_fits n s outer call accounts units c range given) (begun_owned outer call accounts units c range given owned)

  -- a caller after its callee
  patching_owned : (outer : List Key) (f : Running) (accounts : List Account) (units : ℕ) (c : Carried) (answer : Result (List ℕ) ℕ) → IsFrame n f → AreAccountsOf n accounts → AreOwned accounts
      → patched f.machine.context.memory.input.bytes f.start accounts f.metas ≡ answer → NextOwned n (patching outer f accounts units c answer)
  patching_owned outer f accounts units c (Err i) is given owned e = tt
  patching_owned outer f accounts units c (Ok region) is given owned e = (
    record {
      most = is.most;
      range = is.range;
      start = is.start;
      before = given;
      region = patched_region f.machine.context.memory.input.bytes region f.start accounts f.metas
          (widths_of_meta accounts f.metas (range_of n (length accounts) f.metas given.count is.range) (have_widths n accounts given owned)) is.region e;
    },
    owned,
  )

  returning_owned : (outer : List Key) (f : Running) (units : ℕ) (c : Carried) (result : Result (List Account) InstructionError) → IsFrame n f
      → MatchResult result (λ accounts. AreAccountsOf n accounts) (λ _. Unit {0}) → MatchResult result AreOwned (λ _. Unit {0}) → NextOwned n (returning outer f units c result)
  returning_owned outer f units c (Ok accounts) is given owned = patching_owned outer f accounts units c _ is given owned refl
  returning_owned outer f units c (Err error) is given owned = tt

  returned_well : (outer : List Key) (f : Running) (e : Ending) → IsFrame n f → EndsWell n e → NextWell n (returned outer f e)
  unfolding returned
  returned_well outer f e is well = next_well n (returned outer f e) (returned_fits n outer f e) (returning_owned outer f e.units e.carried e.result is well.0 well.1)

  -- ---- the whole of a frame
  abbrev AllWell : (List Key → Running → Carried → Ending) → Type 0
  AllWell goo = (outer : List Key) (f : Running) (c : Carried) → IsFrame n f → AreOwned f.before → EndsWell n (goo outer f c)

  after_well : (outer : List Key) (goo : List Key → Running → Carried → Ending) (next : Next) → AllWell goo → NextWell n next → EndsWell n (after outer goo next)
  after_well outer goo (Runs f c) all well = all outer f c well.0 well.1
  after_well outer goo (Done e) all well = well

  follow_well : (outer : List Key) (goo : List Key → Running → Carried → Ending) (t : Turn) → AllWell goo → TurnFits n s.setting.height outer t → TurnOwned t → EndsWell n (follow s outer goo t)
  follow_well outer goo (GoesOn f c) all fits owned = all outer f c fits owned
  follow_well outer goo (Calls f c callee units) all fits owned =
      let e : Ending = after (f.program ∷ outer) goo (begun s (f.program ∷ outer) callee.call callee.accounts units c) in
      let inner : EndsWell n e = after_well (f.program ∷ outer) goo (begun s (f.program ∷ outer) callee.call callee.accounts units c) all
      (begun_well (f.program ∷ outer) callee.call callee.accounts units c fits.call.range fits.accounts owned.1) in
      after_well outer goo (returned outer f e) all (returned_well outer f e fits.suspended.frame inner)
  follow_well outer goo (Leaves e) all fits owned = (fits, owned)

  within_well : (fuel : ℕ) → AllWell (within s fuel)
  unfolding within
  within_well zero outer f c is owned = (tt, tt)
  within_well (suc fuel) outer f c is owned =
      follow_well outer (within s fuel) (turn s.setting s.keys outer f c) (within_well fuel) (turn_fits s.setting s.keys outer f c is) (turn_owned s.setting s.keys outer f c is owned)

  frame_well : (outer : List Key) (call : Call) (accounts : List Account) (units : ℕ) (c : Carried) → AreInRange n call.metas → AreAccountsOf n accounts → AreOwned accounts
      → EndsWell n (frame s outer call accounts units c)
  frame_well outer call accounts units c range given owned =
      after_well outer (go s) (begun s outer call accounts units c) (λ o f d. within_well (suc f.machine.units) o f d) (begun_well outer call accounts units c range given owned)

  -- an instruction that ends well leaves such accounts
  pub instruction_well : (call : Call) (accounts : List Account) (units trace : ℕ) (log : Log) → AreInRange n call.metas → AreAccountsOf n accounts → AreOwned accounts
      → EndingFits n (instruction s call accounts units trace log) × EndsOwned (instruction s call accounts units trace log)
  instruction_well call accounts units trace log range given owned =
      either (EndsWell n) (nat_le max_trace trace) _ _ (tt, tt) (frame_well [] call accounts units (nothing_returned trace log) range given owned)

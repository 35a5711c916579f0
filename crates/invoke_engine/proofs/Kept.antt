-- What frames keep of their accounts, and the account rules of their stretches.
use Rattle.sbpf_isa.specs.Calls.{invoke_call}
use Rattle.invoke_engine.specs.declared.begin.TheConstants.{NATIVE_UNITS}
use Rattle.std.proofs.Common.{◌≡◌, ◌==◌, ◌⊎◌, inl, inr, ◌∷◌, ℕ, zero, suc, length, Bool, true, false, List, Option, Some, None, Result, Ok, Err, refl, sym, subst, ◌∙◌, if◌then◌else◌}
use Rattle.std.specs.Prelude.{MatchResult, IfOk, nat_lt, not, ◌&&◌}
use Rattle.sol_base.specs.declared.key.Key.{Key}
use Rattle.sol_base.specs.declared.key.TheConstants.{SYSTEM_PROGRAM, LOADER_PROGRAM}
use Rattle.sol_base.specs.Keys.{same_key}
use Rattle.sol_base.proofs.KeyLaws.{same_key-true}
use Rattle.sol_base.specs.declared.account.Account.{Account}
use Rattle.sol_base.specs.declared.lock.Meta.{Meta}
use Rattle.sol_base.specs.Metas.{AreInRange, is_listed_writable}
use Rattle.account_rules.specs.AccountRules.{listed_rules}
use Rattle.account_rules.specs.KeptAccounts.{AreKeptBy}
use Rattle.account_rules.proofs.KeptLaws.{AreKeptBy-trans, AreKeptBy-weaker}
use Rattle.tx_report.specs.declared.status.InstructionError.{InstructionError}
use Rattle.sbpf_machine.specs.Steps.{State, steps}
use Rattle.sbpf_machine.specs.declared.stop.Stop.{Stop}
use Rattle.sbpf_machine.specs.declared.stop.Stop.TheVariants.{Exit, Helper, Fault as Faulted}
use Rattle.sys_calls.specs.SysCalls.{Service}
use Rattle.sys_calls.specs.declared.fault.SysFault.{SysFault}
use Rattle.cpi_calls.specs.Rights.{IsWithin}
use Rattle.cpi_calls.proofs.Within.{rights-within}
use Rattle.program_cache.specs.Programs.{Sought, IsReady, IsAbsent, IsNoProgram, IsBad, IsUnverified}
use Rattle.abi_input.specs.Region.{max_metas}
use Rattle.system_prog.specs.SystemProgram.{system_key, system_row}
use Rattle.system_prog.proofs.Keeping.{system_ends}
use Rattle.loader_prog.specs.Loader.{loader_row}
use Rattle.loader_prog.proofs.Keeping.{loader_ends}
use Rattle.invoke_engine.specs.declared.call.Call.{Call}
use Rattle.invoke_engine.specs.declared.call.Setting.{Setting}
use Rattle.invoke_engine.specs.declared.stopped.Stopped.{Stopped}
use Rattle.invoke_engine.specs.Frames.{Fixed, Carried, Running, Ending, Next, Runs, Done, Callee, Turn, GoesOn, Calls, Leaves, height}
use Rattle.invoke_engine.specs.Endings.{closes, or_error}
use Rattle.invoke_engine.specs.Leaving.{left}
use Rattle.invoke_engine.specs.Calling.{called, calling, requested, call_turn}
use Rattle.invoke_engine.specs.Serving.{serving, served, serve_turn}
use Rattle.invoke_engine.specs.Turns.{at_stop, run_to, turn}
use Rattle.invoke_engine.specs.Returning.{patching, returning, returned}
use Rattle.invoke_engine.specs.Native.{native, native_row, is_native}
use Rattle.invoke_engine.specs.Starting.{program_started, entering, crowded, is_ready, key_at, started, begun}
use Rattle.invoke_engine.specs.Frame.{after, follow, within, frame, go}
use Rattle.invoke_engine.specs.FrameLaws.{AreListed, EndingKeeps}
use Rattle.invoke_engine.specs.Reasons.{by_loader, by_system, refuse}
use Rattle.invoke_engine.proofs.Fuel.{either}
use Rattle.invoke_engine.proofs.Keeping.{ComesFrom, Settles, called_from, refuse_ok, settles, settled_keeps, left_settled, native_row_keeps}

-- accounts that a list lets one write
abbrev Keep : List Meta → List Account → List Account → Type 0
Keep metas before after = AreKeptBy (is_listed_writable metas) before after

-- one list lets write no more than another
abbrev NoMore : List Meta → List Meta → Type 0
NoMore more fewer = (place : ℕ) → is_listed_writable more place ≡ false → is_listed_writable fewer place ≡ false

not_given : (given own : Bool) → (given ≡ true → own ≡ true) → own ≡ false → given ≡ false
not_given true own h none = let e : own ≡ true = h refl in absurd (cc)
not_given false own h none = refl

-- what a turn of a frame keeps
abbrev TurnKeeps : ℕ → Running → Turn → Type 0
TurnKeeps n f (GoesOn g d) = (g.metas ≡ f.metas) × (g.before ≡ f.before)
TurnKeeps n f (Calls g d callee left) = (g.metas ≡ f.metas) × Keep f.metas f.before callee.accounts × NoMore f.metas callee.call.metas × AreInRange n callee.call.metas
TurnKeeps n f (Leaves e) = EndingKeeps f.metas f.before e

callee_keeps : (most : ℕ) (keys outer : List Key) (f g : Running) (c : Carried) (left : ℕ) (callee : Callee)
    → AreListed (length keys) f.metas f.before → g.metas ≡ f.metas
    → ComesFrom most keys outer f c.trace (requested f).answer callee
    → TurnKeeps (length keys) f (Calls g c callee left)
callee_keeps most keys outer f g c left callee listed same from =
    let within : IsWithin from.request keys f.metas from.granted = rights-within from.request keys f.metas from.granted from.rights in (
      same,
      subst (λ (x : Callee). Keep f.metas f.before x.accounts) from.is (settled_keeps (length keys) f from.accounts listed from.left),
      subst (λ (x : Callee). NoMore f.metas x.call.metas) from.is (λ place none. not_given _ _ (within.writes place) none),
      subst (λ (x : Callee). AreInRange (length keys) x.call.metas) from.is within.range,
    )

calling_keeps : (outer keys : List Key) (f : Running) (c : Carried) (most units : ℕ) (result : Result Callee Stopped) → AreListed (length keys) f.metas f.before →
    ((callee : Callee) → result ≡ Ok callee → ComesFrom most keys outer f c.trace (requested f).answer callee) → TurnKeeps (length keys) f (calling outer f c units result)
calling_keeps outer keys f c most units (Ok callee) listed k = callee_keeps most keys outer f f c units callee listed refl (k callee refl)
calling_keeps outer keys f c most units (Err stopped) listed k = tt

serving_keeps : (n : ℕ) (outer : List Key) (f : Running) (c : Carried) (units : ℕ) (result : Result Service SysFault) → TurnKeeps n f (serving outer f c units result)
serving_keeps n outer f c units (Ok service) = (refl, refl)
serving_keeps n outer f c units (Err fault) = tt

leaving_keeps : (outer : List Key) (f : Running) (c : Carried) (units : ℕ)
    (result : Result (List Account) Stopped)
    → ((accounts : List Account) → result ≡ Ok accounts → Keep f.metas f.before accounts)
    → EndingKeeps f.metas f.before (closes outer f units c result)
leaving_keeps outer f c units (Ok accounts) k = k accounts refl
leaving_keeps outer f c units (Err stopped) k = tt

stop_keeps : (setting : Setting) (keys outer : List Key) (f : Running) (c : Carried) (stop : Option Stop)
    → AreListed (length keys) f.metas f.before → TurnKeeps (length keys) f (at_stop setting keys outer f c stop)
stop_keeps setting keys outer f c None listed = tt
stop_keeps setting keys outer f c (Some (Exit r0)) listed =
    leaving_keeps outer f c f.machine.units (left f r0) (λ accounts k. settled_keeps (length keys) f accounts listed (left_settled f r0 accounts k))
stop_keeps setting keys outer f c (Some (Faulted fault)) listed = tt
stop_keeps setting keys outer f c (Some (Helper number)) listed =
    either (TurnKeeps (length keys) f) (number == invoke_call) (call_turn setting keys outer f c) (serve_turn setting outer f c number)
    (calling_keeps outer keys f c setting.height (requested f).units
    (called setting.height keys outer f c.trace (requested f).answer) listed
    (λ callee k. called_from setting.height keys outer f c.trace (requested f).answer callee k))
    (serving_keeps (length keys) outer f c (served setting outer f c number).units (served setting outer f c number).answer)

run_keeps : (setting : Setting) (keys outer : List Key) (f : Running) (c : Carried) (o : Option State)
    → AreListed (length keys) f.metas f.before → TurnKeeps (length keys) f (run_to setting keys outer f c o)
run_keeps setting keys outer f c None listed = tt
run_keeps setting keys outer f c (Some y) listed = stop_keeps setting keys outer (record f { machine = y }) c y.stop listed

turn_keeps : (setting : Setting) (keys outer : List Key) (f : Running) (c : Carried) → AreListed (length keys) f.metas f.before → TurnKeeps (length keys) f (turn setting keys outer f c)
unfolding turn
turn_keeps setting keys outer f c listed = run_keeps setting keys outer f c (steps f.machine) listed

-- a frame that starts, or goes on after its callee: what it keeps from here on
abbrev NextKeeps : List Meta → List Account → Next → Type 0
NextKeeps metas before (Runs f c) = (f.metas ≡ metas) × (f.before ≡ before)
NextKeeps metas before (Done e) = EndingKeeps metas before e

abbrev ReturnKeeps : List Meta → Result (List Account) InstructionError → Next → Type 0
ReturnKeeps metas (Ok accounts) next = NextKeeps metas accounts next
ReturnKeeps metas (Err error) (Runs f c) = ⊥
ReturnKeeps metas (Err error) (Done e) = (before : List Account) → EndingKeeps metas before e

patching_keeps : (outer : List Key) (f : Running) (accounts : List Account) (units : ℕ) (c : Carried)
    (answer : Result (List ℕ) ℕ) → NextKeeps f.metas accounts (patching outer f accounts units c answer)
patching_keeps outer f accounts units c (Ok region) = (refl, refl)
patching_keeps outer f accounts units c (Err i) = tt

returning_keeps : (outer : List Key) (f : Running) (units : ℕ) (c : Carried) (result : Result (List Account) InstructionError) → ReturnKeeps f.metas result (returning outer f units c result)
returning_keeps outer f units c (Ok accounts) = patching_keeps outer f accounts units c _
returning_keeps outer f units c (Err error) = λ before. tt

returned_keeps : (outer : List Key) (f : Running) (e : Ending) → ReturnKeeps f.metas e.result (returned outer f e)
unfolding returned
returned_keeps outer f e = returning_keeps outer f e.units e.carried e.result

or_error_keeps : (metas : List Meta) (before : List Account) (units : ℕ) (c : Carried) (height : ℕ)
    (result : Result (List Account) Stopped)
    → ((after : List Account) → result ≡ Ok after → Keep metas before after)
    → (let e : Ending = record { units = units; carried = c; result = or_error height result }
    in EndingKeeps metas before e)
or_error_keeps metas before units c height (Ok after) k = k after refl
or_error_keeps metas before units c height (Err stopped) k = tt

native_keeps : (n : ℕ) (key : Key) (outer keys : List Key) (call : Call) (accounts : List Account) (units : ℕ)
    (c : Carried) → AreListed n call.metas accounts
    → EndingKeeps call.metas accounts (native key outer keys call accounts units c)
native_keeps n key outer keys call accounts units c listed =
    either (EndingKeeps call.metas accounts) (nat_lt units NATIVE_UNITS) _ _ tt
    (or_error_keeps call.metas accounts units c (height outer) (native_row key keys accounts call) (λ after h. native_row_keeps n key keys accounts call after listed h))

entered_keeps : (s : Fixed) (outer : List Key) (key : Key) (call : Call) (accounts : List Account) (units : ℕ)
    (c : Carried) (found : Sought)
    → NextKeeps call.metas accounts (program_started s.setting s.keys outer key call accounts units c found)
entered_keeps s outer key call accounts units c (IsReady image) = (refl, refl)
entered_keeps s outer key call accounts units c IsAbsent = tt
entered_keeps s outer key call accounts units c IsNoProgram = tt
entered_keeps s outer key call accounts units c IsBad = tt
entered_keeps s outer key call accounts units c (IsUnverified fault) = tt

crowded_keeps : (metas : List Meta) (accounts : List Account) (s : Fixed) (key : Key) (outer : List Key) (units : ℕ) (c : Carried) → EndingKeeps metas accounts (crowded s.programs key outer units c)
unfolding crowded
crowded_keeps metas accounts s key outer units c = either (EndingKeeps metas accounts) (not (is_native key) && is_ready (s.programs key)) _ _ tt tt

entering_keeps : (n : ℕ) (s : Fixed) (outer : List Key) (key : Key) (call : Call) (accounts : List Account)
    (units : ℕ) (c : Carried) → AreListed n call.metas accounts
    → NextKeeps call.metas accounts (entering s outer key call accounts units c)
unfolding entering
entering_keeps n s outer key call accounts units c listed =
    either (NextKeeps call.metas accounts) (nat_lt max_metas (length call.metas)) _ _ (crowded_keeps call.metas accounts s key outer units c)
    (either (NextKeeps call.metas accounts) (is_native key) _ _ (native_keeps n key outer s.keys call accounts units c listed)
    (entered_keeps s outer key call accounts units c (s.programs key)))

begun_keeps : (n : ℕ) (s : Fixed) (outer : List Key) (call : Call) (accounts : List Account) (units : ℕ)
    (c : Carried) → AreListed n call.metas accounts
    → NextKeeps call.metas accounts (begun s outer call accounts units c)
unfolding begun
begun_keeps n s outer call accounts units c listed = entering_keeps n s outer (key_at s.keys call.program) call accounts units (started (key_at s.keys call.program) (height outer) c) listed

abbrev AllKeep : ℕ → (List Key → Running → Carried → Ending) → Type 0
AllKeep n goo = (outer : List Key) (f : Running) (c : Carried) → AreListed n f.metas f.before → EndingKeeps f.metas f.before (goo outer f c)

after_keeps : (n : ℕ) (outer : List Key) (goo : List Key → Running → Carried → Ending) (metas : List Meta)
    (before : List Account) (next : Next) → AllKeep n goo → AreListed n metas before
    → NextKeeps metas before next → EndingKeeps metas before (after outer goo next)
after_keeps n outer goo metas before (Runs f c) all listed k =
    let here : AreListed n f.metas f.before = subst (λ (ms : List Meta). AreListed n ms f.before) (sym k.0) (subst (λ (b : List Account). AreListed n metas b) (sym k.1) listed) in
    subst (λ (ms : List Meta). EndingKeeps ms before (goo outer f c)) k.0 (subst (λ (b : List Account). EndingKeeps f.metas b (goo outer f c)) k.1 (all outer f c here))
after_keeps n outer goo metas before (Done e) all listed k = k

-- from a callee's end on
end_then : (metas : List Meta) (a b : List Account) (result : Result (List Account) InstructionError)
    → Keep metas a b → MatchResult result (λ after. Keep metas b after) (λ _. Unit {0})
    → MatchResult result (λ after. Keep metas a after) (λ _. Unit {0})
end_then metas a b (Ok after) k l = AreKeptBy-trans (is_listed_writable metas) a b after k l
end_then metas a b (Err error) k l = tt

resumed_keeps : (n : ℕ) (outer : List Key) (goo : List Key → Running → Carried → Ending)
    (metas fewer : List Meta) (start accounts : List Account) (result : Result (List Account) InstructionError)
    (next : Next) → AllKeep n goo → AreListed n metas start → NoMore metas fewer → Keep metas start accounts →
    MatchResult result (λ after. Keep fewer accounts after) (λ _. Unit {0}) → ReturnKeeps metas result next → EndingKeeps metas start (after outer goo next)
resumed_keeps n outer goo metas fewer start accounts (Ok now) next all listed rights k l r =
    let e : Ending = after outer goo next in
    let wide : Keep metas accounts now = AreKeptBy-weaker (is_listed_writable fewer) (is_listed_writable metas) accounts now rights l in
    let so_far : Keep metas start now = AreKeptBy-trans (is_listed_writable metas) start accounts now k wide in
    let here : AreListed n metas now = record { count = so_far.count ∙ listed.count; range = listed.range } in
    end_then metas start now e.result so_far (after_keeps n outer goo metas now next all here r)
resumed_keeps n outer goo metas fewer start accounts (Err error) (Runs f c) all listed rights k l r = absurd r
resumed_keeps n outer goo metas fewer start accounts (Err error) (Done e) all listed rights k l r = r start

follow_keeps : (n : ℕ) (s : Fixed) (outer : List Key) (goo : List Key → Running → Carried → Ending)
    (f : Running) (t : Turn) → AllKeep n goo → AreListed n f.metas f.before → TurnKeeps n f t
    → EndingKeeps f.metas f.before (follow s outer goo t)
follow_keeps n s outer goo f (GoesOn g d) all listed k = after_keeps n outer goo f.metas f.before (Runs g d) all listed k
follow_keeps n s outer goo f (Calls g d callee left) all listed k =
    let e : Ending = after (g.program ∷ outer) goo (begun s (g.program ∷ outer) callee.call callee.accounts left d) in
    let inner : AreListed n callee.call.metas callee.accounts = record { count = k.1.count ∙ listed.count; range = k.3 } in
    resumed_keeps n outer goo f.metas callee.call.metas f.before callee.accounts e.result (returned outer g e) all listed k.2 k.1
    (after_keeps n (g.program ∷ outer) goo callee.call.metas callee.accounts _ all inner (begun_keeps n s (g.program ∷ outer) callee.call callee.accounts left d inner))
    (subst (λ (ms : List Meta). ReturnKeeps ms e.result (returned outer g e)) k.0 (returned_keeps outer g e))
follow_keeps n s outer goo f (Leaves e) all listed k = k

within_keeps : (s : Fixed) (n : ℕ) → AllKeep (length s.keys) (within s n)
unfolding within
within_keeps s zero outer f c listed = tt
within_keeps s (suc n) outer f c listed = follow_keeps (length s.keys) s outer (within s n) f (turn s.setting s.keys outer f c) (within_keeps s n) listed (turn_keeps s.setting s.keys outer f c listed)

-- a frame that ends well keeps the accounts that it was given
pub frame_keeps : (s : Fixed) (outer : List Key) (call : Call) (accounts : List Account) (units : ℕ)
    (c : Carried) → AreListed (length s.keys) call.metas accounts
    → EndingKeeps call.metas accounts (frame s outer call accounts units c)
frame_keeps s outer call accounts units c listed =
    after_keeps (length s.keys) outer (go s) call.metas accounts _ (λ o f d. within_keeps s (suc f.machine.units) o f d) listed (begun_keeps (length s.keys) s outer call accounts units c listed)

-- ---- stretches
-- a stretch that ends in a call or well breaks no rule
abbrev TurnRules : Running → Turn → Type 0
TurnRules f (GoesOn g d) = (g.program ≡ f.program) × (g.metas ≡ f.metas) × (g.before ≡ f.before)
TurnRules f (Calls g d callee left) = (g.program ≡ f.program) × (g.metas ≡ f.metas) × (g.before ≡ f.before) × (listed_rules f.program f.metas f.before callee.accounts ≡ Ok tt)
TurnRules f (Leaves e) = IfOk e.result (λ after. listed_rules f.program f.metas f.before after ≡ Ok tt)

calling_rules : (outer keys : List Key) (f : Running) (c : Carried) (most units : ℕ) (result : Result Callee Stopped) →
    ((callee : Callee) → result ≡ Ok callee → ComesFrom most keys outer f c.trace (requested f).answer callee) → TurnRules f (calling outer f c units result)
calling_rules outer keys f c most units (Ok callee) k =
    let from : ComesFrom most keys outer f c.trace (requested f).answer callee = k callee refl in
    let rules : Settles f from.accounts = settles f from.accounts from.left in
    (refl, refl, refl, subst (λ (x : Callee). listed_rules f.program f.metas f.before x.accounts ≡ Ok tt) from.is rules.rules)
calling_rules outer keys f c most units (Err stopped) k = tt

serving_rules : (outer : List Key) (f : Running) (c : Carried) (units : ℕ) (result : Result Service SysFault) → TurnRules f (serving outer f c units result)
serving_rules outer f c units (Ok service) = (refl, refl, refl)
serving_rules outer f c units (Err fault) = tt

leaving_rules : (outer : List Key) (f : Running) (c : Carried) (units : ℕ)
    (result : Result (List Account) Stopped)
    → ((accounts : List Account) → result ≡ Ok accounts → Settles f accounts)
    → TurnRules f (Leaves (closes outer f units c result))
leaving_rules outer f c units (Ok accounts) k = let rules : Settles f accounts = k accounts refl in rules.rules
leaving_rules outer f c units (Err stopped) k = tt

stop_rules : (setting : Setting) (keys outer : List Key) (f : Running) (c : Carried) (stop : Option Stop) → TurnRules f (at_stop setting keys outer f c stop)
stop_rules setting keys outer f c None = tt
stop_rules setting keys outer f c (Some (Exit r0)) = leaving_rules outer f c f.machine.units (left f r0) (λ accounts k. settles f accounts (left_settled f r0 accounts k))
stop_rules setting keys outer f c (Some (Faulted fault)) = tt
stop_rules setting keys outer f c (Some (Helper number)) =
    either (TurnRules f) (number == invoke_call) (call_turn setting keys outer f c) (serve_turn setting outer f c number)
    (calling_rules outer keys f c setting.height (requested f).units
    (called setting.height keys outer f c.trace (requested f).answer)
    (λ callee k. called_from setting.height keys outer f c.trace (requested f).answer callee k))
    (serving_rules outer f c (served setting outer f c number).units (served setting outer f c number).answer)

run_rules : (setting : Setting) (keys outer : List Key) (f : Running) (c : Carried) (o : Option State) → TurnRules f (run_to setting keys outer f c o)
run_rules setting keys outer f c None = tt
run_rules setting keys outer f c (Some y) = stop_rules setting keys outer (record f { machine = y }) c y.stop

turn_rules : (setting : Setting) (keys outer : List Key) (f : Running) (c : Carried) → TurnRules f (turn setting keys outer f c)
unfolding turn
turn_rules setting keys outer f c = run_rules setting keys outer f c (steps f.machine)

pub calls_by_rules : (setting : Setting) (keys outer : List Key) (f g : Running) (c d : Carried) (callee : Callee) (units : ℕ) → turn setting keys outer f c ≡ Calls g d callee units
    → (g.program ≡ f.program) × (g.metas ≡ f.metas) × (g.before ≡ f.before) × (listed_rules f.program f.metas f.before callee.accounts ≡ Ok tt)
calls_by_rules setting keys outer f g c d callee units h = subst (TurnRules f) h (turn_rules setting keys outer f c)

pub leaves_by_rules : (setting : Setting) (keys outer : List Key) (f : Running) (c : Carried) (e : Ending)
    → turn setting keys outer f c ≡ Leaves e
    → IfOk e.result (λ after. listed_rules f.program f.metas f.before after ≡ Ok tt)
leaves_by_rules setting keys outer f c e h = subst (TurnRules f) h (turn_rules setting keys outer f c)

-- a stretch goes on with the accounts that it began with
pub same_stretch : (setting : Setting) (keys outer : List Key) (f g : Running) (c d : Carried)
    → turn setting keys outer f c ≡ GoesOn g d
    → (g.program ≡ f.program) × (g.metas ≡ f.metas) × (g.before ≡ f.before)
same_stretch setting keys outer f g c d h = subst (TurnRules f) h (turn_rules setting keys outer f c)

-- a first stretch begins with what the frame was given, and a native program has but one
abbrev StartsWith : Key → Call → List Account → Next → Type 0
StartsWith key call accounts (Runs f c) = (f.program ≡ key) × (f.metas ≡ call.metas) × (f.before ≡ accounts)
StartsWith key call accounts (Done e) = IfOk e.result (λ after. (after ≡ accounts) ⊎ (listed_rules key call.metas accounts after ≡ Ok tt))

native_rules : (key : Key) (keys : List Key) (accounts : List Account) (call : Call) (after : List Account)
    → native_row key keys accounts call ≡ Ok after
    → (after ≡ accounts) ⊎ (listed_rules key call.metas accounts after ≡ Ok tt)
unfolding native_row
native_rules key keys accounts call after h = by_tests (same_key key SYSTEM_PROGRAM) (same_key key LOADER_PROGRAM) refl refl h
  where
    by_tests : (a b : Bool) → same_key key SYSTEM_PROGRAM ≡ a → same_key key LOADER_PROGRAM ≡ b
        → (if a then refuse by_system (system_row keys accounts call.metas call.input) else if b then refuse
        by_loader (loader_row keys accounts call.metas call.input) else Ok accounts) ≡ Ok after
        → (after ≡ accounts) ⊎ (listed_rules key call.metas accounts after ≡ Ok tt)
    by_tests true b is or g =
        let same : key ≡ system_key = same_key-true key SYSTEM_PROGRAM is in
        inr (subst (λ (k : Key). listed_rules k call.metas accounts after ≡ Ok tt) (sym same) (system_ends keys accounts call.metas call.input after (refuse_ok by_system _ after g)).unbroken)
    by_tests false true is or g = inr
        (subst (λ (k : Key). listed_rules k call.metas accounts after ≡ Ok tt)
        (sym (same_key-true key LOADER_PROGRAM or))
        (loader_ends keys accounts call.metas call.input after (refuse_ok by_loader _ after g)).unbroken)
    by_tests false false is or g = inl (cc)

or_error_rules : (key : Key) (call : Call) (accounts : List Account) (height : ℕ)
    (result : Result (List Account) Stopped)
    → ((after : List Account) → result ≡ Ok after
    → (after ≡ accounts) ⊎ (listed_rules key call.metas accounts after ≡ Ok tt))
    → IfOk (or_error height result) (λ after. (after ≡ accounts) ⊎ (listed_rules key call.metas accounts after ≡ Ok tt))
or_error_rules key call accounts height (Ok after) k = k after refl
or_error_rules key call accounts height (Err stopped) k = tt

native_starts : (key : Key) (outer keys : List Key) (call : Call) (accounts : List Account) (units : ℕ)
    (c : Carried) → StartsWith key call accounts (Done (native key outer keys call accounts units c))
native_starts key outer keys call accounts units c =
    either (λ (e : Ending). StartsWith key call accounts (Done e)) (nat_lt units NATIVE_UNITS) _ _ tt
    (or_error_rules key call accounts (height outer) (native_row key keys accounts call) (λ after h. native_rules key keys accounts call after h))

entered_starts : (s : Fixed) (outer : List Key) (key : Key) (call : Call) (accounts : List Account) (units : ℕ)
    (c : Carried) (found : Sought)
    → StartsWith key call accounts (program_started s.setting s.keys outer key call accounts units c found)
entered_starts s outer key call accounts units c (IsReady image) = (refl, refl, refl)
entered_starts s outer key call accounts units c IsAbsent = tt
entered_starts s outer key call accounts units c IsNoProgram = tt
entered_starts s outer key call accounts units c IsBad = tt
entered_starts s outer key call accounts units c (IsUnverified fault) = tt

crowded_starts : (key : Key) (call : Call) (accounts : List Account) (s : Fixed) (outer : List Key) (units : ℕ)
    (c : Carried) → StartsWith key call accounts (Done (crowded s.programs key outer units c))
unfolding crowded
crowded_starts key call accounts s outer units c = either (λ (e : Ending). StartsWith key call accounts (Done e)) (not (is_native key) && is_ready (s.programs key)) _ _ tt tt

entering_starts : (s : Fixed) (outer : List Key) (key : Key) (call : Call) (accounts : List Account) (units : ℕ)
    (c : Carried) → StartsWith key call accounts (entering s outer key call accounts units c)
unfolding entering
entering_starts s outer key call accounts units c =
    either (StartsWith key call accounts) (nat_lt max_metas (length call.metas)) _ _ (crowded_starts key call accounts s outer units c)
    (either (StartsWith key call accounts) (is_native key) _ _ (native_starts key outer s.keys call accounts units c) (entered_starts s outer key call accounts units c (s.programs key)))

begun_starts : (s : Fixed) (outer : List Key) (call : Call) (accounts : List Account) (units : ℕ) (c : Carried)
    → StartsWith (key_at s.keys call.program) call accounts (begun s outer call accounts units c)
unfolding begun
begun_starts s outer call accounts units c = entering_starts s outer (key_at s.keys call.program) call accounts units (started (key_at s.keys call.program) (height outer) c)

pub first_stretch : (s : Fixed) (outer : List Key) (call : Call) (accounts : List Account) (units : ℕ)
    (c d : Carried) (f : Running) → begun s outer call accounts units c ≡ Runs f d
    → (f.program ≡ key_at s.keys call.program) × (f.metas ≡ call.metas) × (f.before ≡ accounts)
first_stretch s outer call accounts units c d f h = subst (StartsWith (key_at s.keys call.program) call accounts) h (begun_starts s outer call accounts units c)

pub native_stretch : (s : Fixed) (outer : List Key) (call : Call) (accounts : List Account) (units : ℕ) (c : Carried) (e : Ending) → begun s outer call accounts units c ≡ Done e
    → IfOk e.result (λ after. (after ≡ accounts) ⊎ (listed_rules (key_at s.keys call.program) call.metas accounts after ≡ Ok tt))
native_stretch s outer call accounts units c e h = subst (StartsWith (key_at s.keys call.program) call accounts) h (begun_starts s outer call accounts units c)

-- a next one with what the callee left
abbrev StartsAfter : Running → Result (List Account) InstructionError → Next → Type 0
StartsAfter f result (Runs g c) = (g.program ≡ f.program) × (g.metas ≡ f.metas) × (result ≡ Ok g.before)
StartsAfter f result (Done e) = Unit {0}

patching_starts : (outer : List Key) (f : Running) (accounts : List Account) (units : ℕ) (c : Carried)
    (answer : Result (List ℕ) ℕ) → StartsAfter f (Ok accounts) (patching outer f accounts units c answer)
patching_starts outer f accounts units c (Ok region) = (refl, refl, refl)
patching_starts outer f accounts units c (Err i) = tt

returning_starts : (outer : List Key) (f : Running) (units : ℕ) (c : Carried) (result : Result (List Account) InstructionError) → StartsAfter f result (returning outer f units c result)
returning_starts outer f units c (Ok accounts) = patching_starts outer f accounts units c _
returning_starts outer f units c (Err error) = tt

returned_starts : (outer : List Key) (f : Running) (e : Ending) → StartsAfter f e.result (returned outer f e)
unfolding returned
returned_starts outer f e = returning_starts outer f e.units e.carried e.result

pub next_stretch : (outer : List Key) (f g : Running) (e : Ending) (d : Carried) → returned outer f e ≡ Runs g d → (g.program ≡ f.program) × (g.metas ≡ f.metas) × (e.result ≡ Ok g.before)
next_stretch outer f g e d h = subst (StartsAfter f e.result) h (returned_starts outer f e)

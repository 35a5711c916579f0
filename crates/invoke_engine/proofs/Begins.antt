-- Frames at their starts.
use Rattle.invoke_engine.specs.declared.begin.TheConstants.{NATIVE_UNITS}
use Rattle.std.proofs.Common.{◌≡◌, ◌≤◌, ℕ, length, false, List, Result, Ok, Err, refl, ap, ◌∙◌, ◌-◌, arith}
use Rattle.std.specs.Prelude.{nat_lt, not, ◌&&◌}
use Rattle.std.proofs.lemmas.Bool.Decides.{nat_tests}
use Rattle.std.proofs.lemmas.Bool.{cond-false}
use Rattle.sol_base.specs.declared.key.Key.{Key}
use Rattle.sol_base.specs.declared.account.Account.{Account}
use Rattle.tx_report.specs.declared.status.InstructionError.{InstructionError}
use Rattle.sol_base.specs.Metas.{AreInRange, is_listed_writable}
use Rattle.program_cache.specs.Ready.{ReadyImage}
use Rattle.program_cache.specs.Programs.{Sought, IsReady, IsAbsent, IsNoProgram, IsBad, IsUnverified}
use Rattle.abi_input.specs.Region.{max_metas}
use Rattle.invoke_engine.specs.declared.call.Call.{Call}
use Rattle.invoke_engine.specs.declared.stopped.Stopped.{Stopped}
use Rattle.invoke_engine.specs.Frames.{Fixed, Carried, Running, Ending, Next, Runs, Done, height}
use Rattle.invoke_engine.specs.Endings.{or_error}
use Rattle.invoke_engine.specs.Returning.{patching, returning, returned}
use Rattle.invoke_engine.specs.Native.{is_native, native, native_row}
use Rattle.invoke_engine.specs.Starting.{entering, program_started, crowded, first_running, is_ready, begun, key_at, started}
use Rattle.invoke_engine.specs.Conditions.{EndingFits, AreAccountsOf}
use Rattle.invoke_engine.proofs.Fuel.{either}
use Rattle.invoke_engine.proofs.Keeping.{kept_given, native_row_keeps}

pub entering_ready : (s : Fixed) (outer : List Key) (key : Key) (call : Call) (accounts : List Account)
    (units : ℕ) (c : Carried) (image : ReadyImage) → length call.metas ≤ max_metas → is_native key ≡ false
    → s.programs key ≡ IsReady image
    → entering s outer key call accounts units c
    ≡ Runs (first_running s.setting s.keys key image call accounts units) c
unfolding entering
entering_ready s outer key call accounts units c image h k l =
    cond-false (nat_lt max_metas (length call.metas)) _ _ (grind (arith, nat_tests)) ∙ cond-false (is_native key) _ _ k ∙ ap (program_started s.setting s.keys outer key call accounts units c) l

or_error_fits : (n units : ℕ) (c : Carried) (height : ℕ) (result : Result (List Account) Stopped)
    → ((after : List Account) → result ≡ Ok after → AreAccountsOf n after)
    → (let e : Ending = record { units = units; carried = c; result = or_error height result }
    in EndingFits n e)
or_error_fits n units c height (Ok after) k = k after refl
or_error_fits n units c height (Err stopped) k = tt

native_fits : (n : ℕ) (key : Key) (outer keys : List Key) (call : Call) (accounts : List Account) (units : ℕ)
    (c : Carried) → AreInRange n call.metas → AreAccountsOf n accounts
    → EndingFits n (native key outer keys call accounts units c)
native_fits n key outer keys call accounts units c range g =
    either (EndingFits n) (nat_lt units NATIVE_UNITS) _ _ tt
    (or_error_fits n (units - NATIVE_UNITS) c (height outer) (native_row key keys accounts call)
    (λ after h. kept_given n (is_listed_writable call.metas) accounts after g
    (native_row_keeps n key keys accounts call after (record { count = g.count; range = range }) h)))

-- where a frame ends at once, its end fits
abbrev pub DoneFits : ℕ → Next → Type 0
DoneFits n (Runs f c) = Unit {0}
DoneFits n (Done e) = EndingFits n e

crowded_fits : (n : ℕ) (s : Fixed) (key : Key) (outer : List Key) (units : ℕ) (c : Carried) → EndingFits n (crowded s.programs key outer units c)
unfolding crowded
crowded_fits n s key outer units c = either (EndingFits n) (not (is_native key) && is_ready (s.programs key)) _ _ tt tt

entered_fits : (n : ℕ) (s : Fixed) (outer : List Key) (key : Key) (call : Call) (accounts : List Account)
    (units : ℕ) (c : Carried) (found : Sought)
    → DoneFits n (program_started s.setting s.keys outer key call accounts units c found)
entered_fits n s outer key call accounts units c (IsReady image) = tt
entered_fits n s outer key call accounts units c IsAbsent = tt
entered_fits n s outer key call accounts units c IsNoProgram = tt
entered_fits n s outer key call accounts units c IsBad = tt
entered_fits n s outer key call accounts units c (IsUnverified fault) = tt

entering_fits : (n : ℕ) (s : Fixed) (outer : List Key) (key : Key) (call : Call) (accounts : List Account)
    (units : ℕ) (c : Carried) → AreInRange n call.metas → AreAccountsOf n accounts
    → DoneFits n (entering s outer key call accounts units c)
unfolding entering
entering_fits n s outer key call accounts units c range g =
    either (DoneFits n) (nat_lt max_metas (length call.metas)) _ _ (crowded_fits n s key outer units c)
    (either (DoneFits n) (is_native key) _ _ (native_fits n key outer s.keys call accounts units c range g)
    (entered_fits n s outer key call accounts units c (s.programs key)))

pub begun_fits : (n : ℕ) (s : Fixed) (outer : List Key) (call : Call) (accounts : List Account) (units : ℕ)
    (c : Carried) → AreInRange n call.metas → AreAccountsOf n accounts
    → DoneFits n (begun s outer call accounts units c)
unfolding begun
begun_fits n s outer call accounts units c range g = entering_fits n s outer (key_at s.keys call.program) call accounts units (started (key_at s.keys call.program) (height outer) c) range g

-- a caller that ends after its callee has failed
patching_fits : (n : ℕ) (outer : List Key) (f : Running) (accounts : List Account) (units : ℕ) (c : Carried) (answer : Result (List ℕ) ℕ) → DoneFits n (patching outer f accounts units c answer)
patching_fits n outer f accounts units c (Ok region) = tt
patching_fits n outer f accounts units c (Err i) = tt

returning_fits : (n : ℕ) (outer : List Key) (f : Running) (units : ℕ) (c : Carried) (result : Result (List Account) InstructionError) → DoneFits n (returning outer f units c result)
returning_fits n outer f units c (Ok accounts) = patching_fits n outer f accounts units c _
returning_fits n outer f units c (Err error) = tt

pub returned_fits : (n : ℕ) (outer : List Key) (f : Running) (e : Ending) → DoneFits n (returned outer f e)
unfolding returned
returned_fits n outer f e = returning_fits n outer f e.units e.carried e.result

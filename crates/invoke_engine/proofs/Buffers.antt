-- Frames of the loader, and the buffers that they change.
use Rattle.invoke_engine.specs.declared.begin.TheConstants.{NATIVE_UNITS}
use Rattle.std.proofs.Common.{◌≡◌, ◌∙◌, ℕ, length, List, Result, Ok, Err, refl, sym, subst}
use Rattle.std.specs.Prelude.{IfOk, nat_lt, not, ◌&&◌}
use Rattle.sol_base.specs.declared.key.Key.{Key}
use Rattle.sol_base.specs.declared.key.TheConstants.{LOADER_PROGRAM}
use Rattle.sol_base.specs.declared.account.Account.{Account}
use Rattle.sol_base.specs.declared.lock.Meta.{Meta}
use Rattle.loader_prog.specs.Laws.{OnlyTheAuthorityWrites}
use Rattle.loader_prog.specs.Loader.{loader_row}
use Rattle.loader_prog.proofs.Authority.{only_the_authority}
use Rattle.abi_input.specs.Region.{max_metas}
use Rattle.invoke_engine.specs.declared.call.Call.{Call}
use Rattle.invoke_engine.specs.declared.stopped.Stopped.{Stopped}
use Rattle.invoke_engine.specs.Reasons.{refuse, by_loader}
use Rattle.invoke_engine.specs.Frames.{Fixed, Carried, Ending, Next, Runs, Done, height}
use Rattle.invoke_engine.specs.Endings.{or_error}
use Rattle.invoke_engine.specs.Native.{is_native, native_row, native}
use Rattle.invoke_engine.specs.Starting.{key_at, is_ready, crowded, entering, started, begun}
use Rattle.invoke_engine.specs.Frame.{after, go, frame}
use Rattle.invoke_engine.specs.FrameLaws.{AreListed}
use Rattle.invoke_engine.proofs.Fuel.{either}
use Rattle.invoke_engine.proofs.Keeping.{refuse_ok, in_range}

-- where a frame ended well, only an authority changed data
abbrev Writes : List Key → List Account → List Meta → Ending → Type 0
Writes keys accounts metas e = IfOk e.result (λ after. OnlyTheAuthorityWrites keys accounts metas after)

abbrev NextWrites : List Key → List Account → List Meta → Next → Type 0
NextWrites keys accounts metas (Runs f c) = ⊥
NextWrites keys accounts metas (Done e) = Writes keys accounts metas e

or_error_writes : (keys : List Key) (accounts : List Account) (metas : List Meta) (height : ℕ)
    (result : Result (List Account) Stopped)
    → ((after : List Account) → result ≡ Ok after → OnlyTheAuthorityWrites keys accounts metas after)
    → IfOk (or_error height result) (λ after. OnlyTheAuthorityWrites keys accounts metas after)
or_error_writes keys accounts metas height (Ok after) k = k after refl
or_error_writes keys accounts metas height (Err stopped) k = tt

loader_row_is : (keys : List Key) (accounts : List Account) (call : Call) → native_row LOADER_PROGRAM keys accounts call ≡ refuse by_loader (loader_row keys accounts call.metas call.input)
unfolding native_row
loader_row_is keys accounts call = refl

native_writes : (outer keys : List Key) (call : Call) (accounts : List Account) (units : ℕ) (c : Carried)
    → AreListed (length keys) call.metas accounts
    → Writes keys accounts call.metas (native LOADER_PROGRAM outer keys call accounts units c)
native_writes outer keys call accounts units c listed =
    either (Writes keys accounts call.metas) (nat_lt units NATIVE_UNITS) _ _ tt
    (or_error_writes keys accounts call.metas (height outer) (native_row LOADER_PROGRAM keys accounts call)
    (λ after h. only_the_authority keys accounts call.metas call.input after listed.count
    (in_range (length keys) (length accounts) call.metas listed.count listed.range)
    (refuse_ok by_loader _ after (sym (loader_row_is keys accounts call) ∙ h))))

crowded_writes : (keys : List Key) (accounts : List Account) (metas : List Meta) (s : Fixed) (key : Key)
    (outer : List Key) (units : ℕ) (c : Carried)
    → Writes keys accounts metas (crowded s.programs key outer units c)
unfolding crowded
crowded_writes keys accounts metas s key outer units c = either (Writes keys accounts metas) (not (is_native key) && is_ready (s.programs key)) _ _ tt tt

entering_writes : (s : Fixed) (outer : List Key) (call : Call) (accounts : List Account) (units : ℕ)
    (c : Carried) → AreListed (length s.keys) call.metas accounts
    → NextWrites s.keys accounts call.metas (entering s outer LOADER_PROGRAM call accounts units c)
unfolding entering
entering_writes s outer call accounts units c listed =
    either (NextWrites s.keys accounts call.metas) (nat_lt max_metas (length call.metas)) _ _
    (crowded_writes s.keys accounts call.metas s LOADER_PROGRAM outer units c)
    (native_writes outer s.keys call accounts units c listed)

begun_writes : (s : Fixed) (outer : List Key) (call : Call) (accounts : List Account) (units : ℕ) (c : Carried)
    → AreListed (length s.keys) call.metas accounts → key_at s.keys call.program ≡ LOADER_PROGRAM
    → NextWrites s.keys accounts call.metas (begun s outer call accounts units c)
unfolding begun
begun_writes s outer call accounts units c listed is =
    subst (λ (key : Key). NextWrites s.keys accounts call.metas (entering s outer key call accounts units (started key (height outer) c))) (sym is)
    (entering_writes s outer call accounts units (started LOADER_PROGRAM (height outer) c) listed)

after_writes : (keys : List Key) (accounts : List Account) (metas : List Meta) (s : Fixed) (outer : List Key)
    (next : Next) → NextWrites keys accounts metas next → Writes keys accounts metas (after outer (go s) next)
after_writes keys accounts metas s outer (Runs f c) h = absurd h
after_writes keys accounts metas s outer (Done e) h = h

-- a frame of the loader that ends well
pub loader_frame_writes : (s : Fixed) (outer : List Key) (call : Call) (accounts : List Account) (units : ℕ)
    (c : Carried) → AreListed (length s.keys) call.metas accounts → key_at s.keys call.program ≡ LOADER_PROGRAM
    →
    IfOk (frame s outer call accounts units c).result (λ after. OnlyTheAuthorityWrites s.keys accounts call.metas after)
loader_frame_writes s outer call accounts units c listed is =
    after_writes s.keys accounts call.metas s outer _ (begun_writes s outer call accounts units c listed is)

-- Frames keep the accounts whose owners do not run in them.
use Rattle.std.proofs.Common.{◌≡◌, ◌==◌, ◌∷◌, ◌++◌, [], ℕ, zero, suc, length, Bool, true, false, List, Option, Some, None, Result, Ok, Err, refl, sym, subst, ◌∙◌, if◌then◌else◌}
use Rattle.std.specs.Prelude.{IfOk, nat_lt, nat_le, not, ◌&&◌}
use Rattle.sol_base.specs.declared.key.Key.{Key}
use Rattle.sol_base.specs.declared.key.TheConstants.{SYSTEM_PROGRAM, LOADER_PROGRAM}
use Rattle.sol_base.specs.declared.account.Account.{Account}
use Rattle.sol_base.specs.declared.lock.Meta.{Meta}
use Rattle.sol_base.specs.Keys.{has_key, same_key}
use Rattle.sol_base.specs.Metas.{AreInRange}
use Rattle.sol_base.proofs.KeyLaws.{same_key-true}
use Rattle.account_rules.specs.KeptAccounts.{AreForeignKept}
use Rattle.account_rules.proofs.KeptLaws.{AreForeignKept-listed_rules}
use Rattle.account_rules.proofs.Foreign.{AreForeignKept-fewer, AreForeignKept-refl, AreForeignKept-trans, are_others}
use Rattle.tx_report.specs.LogLines.{Log}
use Rattle.tx_report.specs.declared.cause.Cause.TheVariants.{TraceTooLong}
use Rattle.tx_report.specs.declared.status.InstructionError.{InstructionError}
use Rattle.sbpf_isa.specs.Calls.{invoke_call}
use Rattle.sbpf_machine.specs.Steps.{State, steps}
use Rattle.sbpf_machine.specs.declared.stop.Stop.{Stop}
use Rattle.sbpf_machine.specs.declared.stop.Stop.TheVariants.{Exit, Helper, Fault as Faulted}
use Rattle.sys_calls.specs.SysCalls.{Service}
use Rattle.sys_calls.specs.declared.fault.SysFault.{SysFault}
use Rattle.cpi_calls.specs.Rights.{IsWithin}
use Rattle.cpi_calls.proofs.Within.{rights-within}
use Rattle.program_cache.specs.Programs.{Sought, IsReady, IsAbsent, IsNoProgram, IsBad, IsUnverified}
use Rattle.abi_input.specs.Region.{max_metas, patched}
use Rattle.system_prog.specs.SystemProgram.{system_key, system_row}
use Rattle.system_prog.proofs.Keeping.{system_ends, system_foreign}
use Rattle.loader_prog.specs.Loader.{loader_row}
use Rattle.loader_prog.proofs.Keeping.{loader_ends, loader_foreign}
use Rattle.invoke_engine.specs.declared.begin.TheConstants.{NATIVE_UNITS}
use Rattle.invoke_engine.specs.declared.call.Call.{Call}
use Rattle.invoke_engine.specs.declared.call.Setting.{Setting}
use Rattle.invoke_engine.specs.declared.stopped.Stopped.{Stopped}
use Rattle.invoke_engine.specs.Frames.{Fixed, Carried, Running, Ending, Next, Runs, Done, Callee, Turn, GoesOn, Calls, Leaves, height, max_trace}
use Rattle.invoke_engine.specs.Endings.{closes, error_of, or_error}
use Rattle.invoke_engine.specs.Leaving.{lawful_accounts, left}
use Rattle.invoke_engine.specs.Calling.{called, calling, requested, call_turn}
use Rattle.invoke_engine.specs.Serving.{serving, served, serve_turn}
use Rattle.invoke_engine.specs.Turns.{at_stop, run_to, turn}
use Rattle.invoke_engine.specs.Returning.{patching, returning, returned}
use Rattle.invoke_engine.specs.Native.{native, native_row, is_native}
use Rattle.invoke_engine.specs.Starting.{program_started, entering, crowded, is_ready, key_at, started, begun}
use Rattle.invoke_engine.specs.Frame.{after, follow, within, frame, go, instruction, nothing_returned}
use Rattle.invoke_engine.specs.FrameLaws.{AreListed}
use Rattle.invoke_engine.specs.Programs.{called_by_turn, called_in, called_next, called_within, programs_of_frame, programs_of_instruction}
use Rattle.invoke_engine.specs.Reasons.{plainly, by_loader, by_system, refuse}
use Rattle.invoke_engine.proofs.Fuel.{either}
use Rattle.invoke_engine.proofs.Keeping.{ComesFrom, Settles, back_count, back_others, called_from, in_range, left_settled, refuse_ok, settles}

-- as many accounts, which these programs alone may have touched
record Foreign (programs : List Key) (before after : List Account) : Type 0 where
  pub count : length after ≡ length before
  pub kept : AreForeignKept programs before after

abbrev EndingForeign : List Key → List Account → Result (List Account) InstructionError → Type 0
EndingForeign programs before result = IfOk result (λ after. Foreign programs before after)

foreign_trans : (programs : List Key) (a b c : List Account) → Foreign programs a b → Foreign programs b c → Foreign programs a c
foreign_trans programs a b c one two = record { count = two.count ∙ one.count; kept = AreForeignKept-trans programs a b c one.count one.kept two.kept }

foreign_fewer : (fewer more : List Key) (a b : List Account) → ((owner : Key) → has_key owner more ≡ false → has_key owner fewer ≡ false) → Foreign fewer a b → Foreign more a b
foreign_fewer fewer more a b each one = record { count = one.count; kept = AreForeignKept-fewer fewer more a b each one.kept }

listed_by : (n : ℕ) (metas : List Meta) (a b : List Account) → length b ≡ length a → AreListed n metas a → AreListed n metas b
listed_by n metas a b same listed = record { count = same ∙ listed.count; range = listed.range }

-- ---- stretches
settled_foreign : (n : ℕ) (f : Running) (after : List Account) → AreListed n f.metas f.before → lawful_accounts f ≡ Ok after → Foreign (f.program ∷ []) f.before after
settled_foreign n f after listed h =
    let from : Settles f after = settles f after h in
    let count : length after ≡ length f.before = back_count _ _ _ _ after from.taken in
    record {
      count = count;
      kept = AreForeignKept-listed_rules f.program f.metas f.before after count
          (in_range n (length f.before) f.metas listed.count listed.range) (back_others _ _ _ _ after from.taken)
          from.rules;
    }

-- what a turn of a frame leaves of its accounts
abbrev TurnForeign : ℕ → Running → Turn → Type 0
TurnForeign n f (GoesOn g d) = (g.program ≡ f.program) × (g.metas ≡ f.metas) × (g.before ≡ f.before)
TurnForeign n f (Calls g d callee units) = (g.program ≡ f.program) × (g.metas ≡ f.metas) × Foreign (f.program ∷ []) f.before callee.accounts × AreInRange n callee.call.metas
TurnForeign n f (Leaves e) = EndingForeign (f.program ∷ []) f.before e.result

callee_foreign : (most : ℕ) (keys outer : List Key) (f : Running) (c : Carried) (units : ℕ) (callee : Callee)
    → AreListed (length keys) f.metas f.before → ComesFrom most keys outer f c.trace (requested f).answer callee
    → TurnForeign (length keys) f (Calls f c callee units)
callee_foreign most keys outer f c units callee listed from =
    let within : IsWithin from.request keys f.metas from.granted = rights-within from.request keys f.metas from.granted from.rights in (
      refl,
      refl,
      subst (λ (x : Callee). Foreign (f.program ∷ []) f.before x.accounts) from.is (settled_foreign (length keys) f from.accounts listed from.left),
      subst (λ (x : Callee). AreInRange (length keys) x.call.metas) from.is within.range,
    )

calling_foreign : (outer keys : List Key) (f : Running) (c : Carried) (most units : ℕ) (result : Result Callee Stopped) → AreListed (length keys) f.metas f.before →
    ((callee : Callee) → result ≡ Ok callee → ComesFrom most keys outer f c.trace (requested f).answer callee) → TurnForeign (length keys) f (calling outer f c units result)
calling_foreign outer keys f c most units (Ok callee) listed k = callee_foreign most keys outer f c units callee listed (k callee refl)
calling_foreign outer keys f c most units (Err stopped) listed k = tt

serving_foreign : (n : ℕ) (outer : List Key) (f : Running) (c : Carried) (units : ℕ) (result : Result Service SysFault) → TurnForeign n f (serving outer f c units result)
serving_foreign n outer f c units (Ok service) = (refl, refl, refl)
serving_foreign n outer f c units (Err fault) = tt

leaving_foreign : (outer : List Key) (f : Running) (c : Carried) (units : ℕ)
    (result : Result (List Account) Stopped)
    → ((accounts : List Account) → result ≡ Ok accounts → Foreign (f.program ∷ []) f.before accounts)
    → EndingForeign (f.program ∷ []) f.before (closes outer f units c result).result
leaving_foreign outer f c units (Ok accounts) k = k accounts refl
leaving_foreign outer f c units (Err stopped) k = tt

stop_foreign : (setting : Setting) (keys outer : List Key) (f : Running) (c : Carried) (stop : Option Stop)
    → AreListed (length keys) f.metas f.before
    → TurnForeign (length keys) f (at_stop setting keys outer f c stop)
stop_foreign setting keys outer f c None listed = tt
stop_foreign setting keys outer f c (Some (Exit r0)) listed =
    leaving_foreign outer f c f.machine.units (left f r0) (λ accounts k. settled_foreign (length keys) f accounts listed (left_settled f r0 accounts k))
stop_foreign setting keys outer f c (Some (Faulted fault)) listed = tt
stop_foreign setting keys outer f c (Some (Helper number)) listed =
    either (TurnForeign (length keys) f) (number == invoke_call) (call_turn setting keys outer f c) (serve_turn setting outer f c number)
    (calling_foreign outer keys f c setting.height (requested f).units
    (called setting.height keys outer f c.trace (requested f).answer) listed
    (λ callee k. called_from setting.height keys outer f c.trace (requested f).answer callee k))
    (serving_foreign (length keys) outer f c (served setting outer f c number).units (served setting outer f c number).answer)

run_foreign : (setting : Setting) (keys outer : List Key) (f : Running) (c : Carried) (o : Option State)
    → AreListed (length keys) f.metas f.before → TurnForeign (length keys) f (run_to setting keys outer f c o)
run_foreign setting keys outer f c None listed = tt
run_foreign setting keys outer f c (Some y) listed = stop_foreign setting keys outer (record f { machine = y }) c y.stop listed

turn_foreign : (setting : Setting) (keys outer : List Key) (f : Running) (c : Carried) → AreListed (length keys) f.metas f.before → TurnForeign (length keys) f (turn setting keys outer f c)
unfolding turn
turn_foreign setting keys outer f c listed = run_foreign setting keys outer f c (steps f.machine) listed

-- before a call, and where a frame ends well
pub calls_foreign : (setting : Setting) (keys outer : List Key) (f g : Running) (c d : Carried)
    (callee : Callee) (units : ℕ) → AreListed (length keys) f.metas f.before
    → turn setting keys outer f c ≡ Calls g d callee units
    → AreForeignKept (f.program ∷ []) f.before callee.accounts
calls_foreign setting keys outer f g c d callee units listed h =
    let both : TurnForeign (length keys) f (Calls g d callee units) = subst (TurnForeign (length keys) f) h (turn_foreign setting keys outer f c listed) in
    let kept : Foreign (f.program ∷ []) f.before callee.accounts = both.2 in
    kept.kept

kept_of : (programs : List Key) (before : List Account) (result : Result (List Account) InstructionError) → EndingForeign programs before result → IfOk result (AreForeignKept programs before)
kept_of programs before (Ok after) k = k.kept
kept_of programs before (Err error) k = tt

pub leaves_foreign : (setting : Setting) (keys outer : List Key) (f : Running) (c : Carried) (e : Ending) → AreListed (length keys) f.metas f.before → turn setting keys outer f c ≡ Leaves e
    → IfOk e.result (AreForeignKept (f.program ∷ []) f.before)
leaves_foreign setting keys outer f c e listed h = kept_of (f.program ∷ []) f.before e.result (subst (TurnForeign (length keys) f) h (turn_foreign setting keys outer f c listed))

-- ---- frames at their starts, and after a callee
abbrev NextForeign : Key → List Meta → List Account → Next → Type 0
NextForeign program metas before (Runs f c) = (f.program ≡ program) × (f.metas ≡ metas) × (f.before ≡ before)
NextForeign program metas before (Done e) = EndingForeign (program ∷ []) before e.result

abbrev ReturnForeign : Key → List Meta → Result (List Account) InstructionError → Next → Type 0
ReturnForeign program metas (Ok accounts) next = NextForeign program metas accounts next
ReturnForeign program metas (Err error) (Runs f c) = ⊥
ReturnForeign program metas (Err error) (Done e) = (before : List Account) (programs : List Key) → EndingForeign programs before e.result

patching_foreign : (outer : List Key) (f : Running) (accounts : List Account) (units : ℕ) (c : Carried)
    (answer : Result (List ℕ) ℕ)
    → NextForeign f.program f.metas accounts (patching outer f accounts units c answer)
patching_foreign outer f accounts units c (Ok region) = (refl, refl, refl)
patching_foreign outer f accounts units c (Err i) = tt

returning_foreign : (outer : List Key) (f : Running) (units : ℕ) (c : Carried)
    (result : Result (List Account) InstructionError)
    → ReturnForeign f.program f.metas result (returning outer f units c result)
returning_foreign outer f units c (Ok accounts) = patching_foreign outer f accounts units c (patched f.machine.context.memory.input.bytes f.start accounts f.metas)
returning_foreign outer f units c (Err error) = λ before programs. tt

returned_foreign : (outer : List Key) (f : Running) (e : Ending) → ReturnForeign f.program f.metas e.result (returned outer f e)
unfolding returned
returned_foreign outer f e = returning_foreign outer f e.units e.carried e.result

-- what a native program leaves
native_row_foreign : (n : ℕ) (key : Key) (keys : List Key) (accounts : List Account) (call : Call)
    (after : List Account) → AreListed n call.metas accounts → native_row key keys accounts call ≡ Ok after
    → Foreign (key ∷ []) accounts after
unfolding native_row
native_row_foreign n key keys accounts call after listed h = by_tests (same_key key SYSTEM_PROGRAM) (same_key key LOADER_PROGRAM) refl refl h
  where
    range : AreInRange (length accounts) call.metas
    range = in_range n (length accounts) call.metas listed.count listed.range

    by_system_program : same_key key SYSTEM_PROGRAM ≡ true → system_row keys accounts call.metas call.input ≡ Ok after → Foreign (key ∷ []) accounts after
    by_system_program is g =
        let own : Foreign (system_key ∷ []) accounts after =
        record {
          count = (system_ends keys accounts call.metas call.input after g).count;
          kept =
              system_foreign keys accounts call.metas call.input after range g;
        } in
        let same : key ≡ system_key = same_key-true key SYSTEM_PROGRAM is in
        subst (λ (k : Key). Foreign (k ∷ []) accounts after) (sym same) own

    by_loader_program : same_key key LOADER_PROGRAM ≡ true → loader_row keys accounts call.metas call.input ≡ Ok after → Foreign (key ∷ []) accounts after
    by_loader_program is g =
        let own : Foreign (LOADER_PROGRAM ∷ []) accounts after =
        record {
          count = (loader_ends keys accounts call.metas call.input after g).count;
          kept =
              loader_foreign keys accounts call.metas call.input after range g;
        } in
        subst (λ (k : Key). Foreign (k ∷ []) accounts after) (sym (same_key-true key LOADER_PROGRAM is)) own

    by_tests : (a b : Bool) → same_key key SYSTEM_PROGRAM ≡ a → same_key key LOADER_PROGRAM ≡ b
        → (if a then refuse by_system (system_row keys accounts call.metas call.input) else if b then refuse
        by_loader (loader_row keys accounts call.metas call.input) else Ok accounts) ≡ Ok after
        → Foreign (key ∷ []) accounts after
    by_tests true b is or g = by_system_program is (refuse_ok by_system _ after g)
    by_tests false true is or g = by_loader_program or (refuse_ok by_loader _ after g)
    by_tests false false is or g = let same : accounts ≡ after = cc in subst (Foreign (key ∷ []) accounts) same (record { count = refl; kept = AreForeignKept-refl (key ∷ []) accounts })

or_error_foreign : (programs : List Key) (before : List Account) (height : ℕ)
    (result : Result (List Account) Stopped)
    → ((after : List Account) → result ≡ Ok after → Foreign programs before after)
    → EndingForeign programs before (or_error height result)
or_error_foreign programs before height (Ok after) k = k after refl
or_error_foreign programs before height (Err stopped) k = tt

native_end_foreign : (n : ℕ) (key : Key) (outer keys : List Key) (call : Call) (accounts : List Account)
    (units : ℕ) (c : Carried) → AreListed n call.metas accounts
    → EndingForeign (key ∷ []) accounts (native key outer keys call accounts units c).result
native_end_foreign n key outer keys call accounts units c listed =
    either (λ (e : Ending). EndingForeign (key ∷ []) accounts e.result) (nat_lt units NATIVE_UNITS) _ _ tt
    (or_error_foreign (key ∷ []) accounts (height outer) (native_row key keys accounts call) (λ after h. native_row_foreign n key keys accounts call after listed h))

entered_foreign : (s : Fixed) (outer : List Key) (key : Key) (call : Call) (accounts : List Account) (units : ℕ)
    (c : Carried) (found : Sought)
    → NextForeign key call.metas accounts
    (program_started s.setting s.keys outer key call accounts units c found)
entered_foreign s outer key call accounts units c (IsReady image) = (refl, refl, refl)
entered_foreign s outer key call accounts units c IsAbsent = tt
entered_foreign s outer key call accounts units c IsNoProgram = tt
entered_foreign s outer key call accounts units c IsBad = tt
entered_foreign s outer key call accounts units c (IsUnverified fault) = tt

crowded_foreign : (programs : List Key) (accounts : List Account) (s : Fixed) (key : Key) (outer : List Key)
    (units : ℕ) (c : Carried) → EndingForeign programs accounts (crowded s.programs key outer units c).result
unfolding crowded
crowded_foreign programs accounts s key outer units c = either (λ (e : Ending). EndingForeign programs accounts e.result) (not (is_native key) && is_ready (s.programs key)) _ _ tt tt

entering_foreign : (n : ℕ) (s : Fixed) (outer : List Key) (key : Key) (call : Call) (accounts : List Account)
    (units : ℕ) (c : Carried) → AreListed n call.metas accounts
    → NextForeign key call.metas accounts (entering s outer key call accounts units c)
unfolding entering
entering_foreign n s outer key call accounts units c listed =
    either (NextForeign key call.metas accounts) (nat_lt max_metas (length call.metas)) _ _ (crowded_foreign (key ∷ []) accounts s key outer units c)
    (either (NextForeign key call.metas accounts) (is_native key) _ _ (native_end_foreign n key outer s.keys call accounts units c listed)
    (entered_foreign s outer key call accounts units c (s.programs key)))

begun_foreign : (n : ℕ) (s : Fixed) (outer : List Key) (call : Call) (accounts : List Account) (units : ℕ)
    (c : Carried) → AreListed n call.metas accounts
    → NextForeign (key_at s.keys call.program) call.metas accounts (begun s outer call accounts units c)
unfolding begun
begun_foreign n s outer call accounts units c listed = entering_foreign n s outer (key_at s.keys call.program) call accounts units (started (key_at s.keys call.program) (height outer) c) listed

-- ---- whole frames
abbrev Goes : Type 0
Goes = List Key → Running → Carried → Ending

abbrev Lists : Type 0
Lists = List Key → Running → Carried → List Key

abbrev AllForeign : ℕ → Goes → Lists → Type 0
AllForeign n goo calls = (outer : List Key) (f : Running) (c : Carried) → AreListed n f.metas f.before → EndingForeign (f.program ∷ calls outer f c) f.before (goo outer f c).result

after_foreign : (n : ℕ) (outer : List Key) (goo : Goes) (calls : Lists) (program : Key) (metas : List Meta)
    (before : List Account) (next : Next) → AllForeign n goo calls → AreListed n metas before
    → NextForeign program metas before next
    → EndingForeign (program ∷ called_next outer calls next) before (after outer goo next).result
after_foreign n outer goo calls program metas before (Runs f c) all listed k =
    let here : AreListed n f.metas f.before = subst (λ (ms : List Meta). AreListed n ms f.before) (sym k.1) (subst (λ (b : List Account). AreListed n metas b) (sym k.2) listed) in
    subst (λ (p : Key). EndingForeign (p ∷ calls outer f c) before (goo outer f c).result) k.0
    (subst (λ (b : List Account). EndingForeign (f.program ∷ calls outer f c) b (goo outer f c).result) k.2 (all outer f c here))
after_foreign n outer goo calls program metas before (Done e) all listed k = k

-- from a callee's end on
end_then : (programs : List Key) (a b : List Account) (result : Result (List Account) InstructionError) → Foreign programs a b → EndingForeign programs b result → EndingForeign programs a result
end_then programs a b (Ok after) k l = foreign_trans programs a b after k l
end_then programs a b (Err error) k l = tt

end_fewer : (fewer more : List Key) (before : List Account) (result : Result (List Account) InstructionError)
    → ((owner : Key) → has_key owner more ≡ false → has_key owner fewer ≡ false)
    → EndingForeign fewer before result → EndingForeign more before result
end_fewer fewer more before (Ok after) each k = foreign_fewer fewer more before after each k
end_fewer fewer more before (Err error) each k = tt

-- the accounts of a caller from its call on
module _ (n : ℕ) (outer : List Key) (goo : Goes) (calls : Lists) (all : AllForeign n goo calls)
    (caller callee : Key) (metas : List Meta) (start accounts : List Account) (listed : AreListed n metas start)
    (so_far : Foreign (caller ∷ []) start accounts) (inner : List Key) where
  abbrev programs : Next → List Key
  programs next = caller ∷ callee ∷ (inner ++ called_next outer calls next)

  resumed_foreign : (result : Result (List Account) InstructionError) (next : Next)
      → EndingForeign (callee ∷ inner) accounts result → ReturnForeign caller metas result next
      → EndingForeign (programs next) start (after outer goo next).result
  resumed_foreign (Ok now) next l r =
      let later : List Key = called_next outer calls next in
      let mine : Foreign (programs next) start accounts = foreign_fewer (caller ∷ []) (programs next) start accounts (λ owner none. (are_others owner caller callee inner later none).own) so_far in
      let its : Foreign (programs next) accounts now = foreign_fewer (callee ∷ inner) (programs next) accounts now (λ owner none. (are_others owner caller callee inner later none).called) l in
      let both : Foreign (programs next) start now = foreign_trans (programs next) start accounts now mine its in
      let rest : EndingForeign (caller ∷ later) now (after outer goo next).result = after_foreign n outer goo calls caller metas now next all (listed_by n metas start now both.count listed) r in
      end_then (programs next) start now (after outer goo next).result both
      (end_fewer (caller ∷ later) (programs next) now (after outer goo next).result (λ owner none. (are_others owner caller callee inner later none).rest) rest)
  resumed_foreign (Err error) (Runs f c) l r = absurd r
  resumed_foreign (Err error) (Done e) l r = r start (programs (Done e))

follow_foreign : (n : ℕ) (s : Fixed) (outer : List Key) (goo : Goes) (calls : Lists) (f : Running) (t : Turn)
    → AllForeign n goo calls → AreListed n f.metas f.before → TurnForeign n f t
    → EndingForeign (f.program ∷ called_by_turn s outer goo calls t) f.before (follow s outer goo t).result
follow_foreign n s outer goo calls f (GoesOn g d) all listed k = after_foreign n outer goo calls f.program f.metas f.before (Runs g d) all listed k
follow_foreign n s outer goo calls f (Calls g d callee units) all listed k =
    let inner : List Key = g.program ∷ outer in
    let next : Next = begun s inner callee.call callee.accounts units d in
    let e : Ending = after inner goo next in
    let program : Key = key_at s.keys callee.call.program in
    let there : AreListed n callee.call.metas callee.accounts = record { count = k.2.count ∙ listed.count; range = k.3 } in
    let its : EndingForeign (program ∷ called_next inner calls next) callee.accounts e.result = after_foreign n
    inner goo calls program callee.call.metas callee.accounts next all there
    (begun_foreign n s inner callee.call callee.accounts units d there) in
    let back : ReturnForeign f.program f.metas e.result (returned outer g e) = subst
    (λ (p : Key). ReturnForeign p f.metas e.result (returned outer g e)) k.0
    (subst (λ (ms : List Meta). ReturnForeign g.program ms e.result (returned outer g e)) k.1
    (returned_foreign outer g e)) in
    resumed_foreign n outer goo calls all f.program program f.metas f.before callee.accounts listed k.2 (called_next inner calls next) e.result (returned outer g e) its back
follow_foreign n s outer goo calls f (Leaves e) all listed k = k

within_foreign : (s : Fixed) (n : ℕ) → AllForeign (length s.keys) (within s n) (called_within s n)
unfolding within called_within
within_foreign s zero outer f c listed = tt
within_foreign s (suc n) outer f c listed = follow_foreign (length s.keys) s outer (within s n)
    (called_within s n) f (turn s.setting s.keys outer f c) (within_foreign s n) listed
    (turn_foreign s.setting s.keys outer f c listed)

frame_result : (s : Fixed) (outer : List Key) (call : Call) (accounts : List Account) (units : ℕ) (c : Carried)
    → AreListed (length s.keys) call.metas accounts
    → EndingForeign (programs_of_frame s outer call accounts units c) accounts
    (frame s outer call accounts units c).result
frame_result s outer call accounts units c listed =
    after_foreign (length s.keys) outer (go s) (called_in s) (key_at s.keys call.program) call.metas accounts
    (begun s outer call accounts units c) (λ o f d here. within_foreign s (suc f.machine.units) o f d here)
    listed
    (begun_foreign (length s.keys) s outer call accounts units c listed)

-- a frame that ends well keeps what is owned by programs that do not run in it
pub frame_foreign : (s : Fixed) (outer : List Key) (call : Call) (accounts : List Account) (units : ℕ)
    (c : Carried) → AreListed (length s.keys) call.metas accounts
    → IfOk (frame s outer call accounts units c).result
    (λ after. AreForeignKept (programs_of_frame s outer call accounts units c) accounts after)
frame_foreign s outer call accounts units c listed = kept_of (programs_of_frame s outer call accounts units c)
    accounts (frame s outer call accounts units c).result (frame_result s outer call accounts units c listed)

-- and so does an instruction
pub instruction_foreign : (s : Fixed) (call : Call) (accounts : List Account) (units trace : ℕ) (log : Log)
    → AreListed (length s.keys) call.metas accounts
    → IfOk (instruction s call accounts units trace log).result
    (λ after. AreForeignKept (programs_of_instruction s call accounts units trace log) accounts after)
instruction_foreign s call accounts units trace log listed = by_test (nat_le max_trace trace)
  where
    by_test : (b : Bool) → IfOk (if b then
        record {
          units = units;
          carried = nothing_returned trace log;
          result = Err
              (error_of 1 (plainly TraceTooLong));
        } else frame s [] call accounts units
        (nothing_returned trace log)).result
        (λ after. AreForeignKept (if b then [] else programs_of_frame s [] call accounts units
        (nothing_returned trace log)) accounts after)
    by_test true = tt
    by_test false = frame_foreign s [] call accounts units (nothing_returned trace log) listed

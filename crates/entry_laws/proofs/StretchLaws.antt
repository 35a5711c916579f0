-- An instruction, and a transaction, is a chain of stretches.
use Rattle.std.proofs.Common.{◌≡◌, ◌==◌, ◌<◌, ◌∷◌, [], ◌++◌, ℕ, zero, suc, Bool, true, false, cond, List, length, All, Option, Some, None, Result, Ok, Err, refl, sym, ap, subst, ◌∙◌, ◌≤◌, ◌||◌, arith, get_or}
use Rattle.std.specs.Prelude.{◌+◌, ◌-◌, IfOk, MatchResult, nat_le, nat_lt, slice_get}
use Rattle.std.specs.List.{AllByRecursion}
use Rattle.std.proofs.lemmas.List.Elements.{All-head, All-tail, recursion_from_All}
use Rattle.sol_base.specs.declared.key.Key.{Key}
use Rattle.sol_base.specs.declared.account.Account.{Account}
use Rattle.sol_base.specs.declared.lock.Meta.{Meta}
use Rattle.sol_base.specs.Metas.{AreInRange, is_listed_writable}
use Rattle.account_rules.specs.KeptAccounts.{AreForeignKept, AreKeptBy, IsForeignKept}
use Rattle.message_codec.specs.declared.message.Instruction.{Instruction}
use Rattle.message_codec.specs.Roles.{all_keys}
use Rattle.tx_report.specs.LogLines.{Log, no_lines}
use Rattle.tx_report.specs.declared.cause.Cause.TheVariants.{LoadedDataTooLarge, TraceTooLong}
use Rattle.tx_report.specs.declared.cause.DropCause.{DropCause}
use Rattle.tx_report.specs.declared.status.InstructionError.{InstructionError}
use Rattle.tx_report.specs.declared.status.Status.TheVariants.{Good}
use Rattle.tx_report.specs.Statuses.{whole_transaction}
use Rattle.sbpf_isa.specs.Calls.{invoke_call}
use Rattle.sbpf_machine.specs.Steps.{State, steps}
use Rattle.sbpf_machine.specs.declared.stop.Stop.{Stop}
use Rattle.sbpf_machine.specs.declared.stop.Stop.TheVariants.{Exit, Helper, Fault as Faulted}
use Rattle.sys_calls.specs.SysCalls.{Service}
use Rattle.sys_calls.specs.declared.fault.SysFault.{SysFault}
use Rattle.cpi_calls.specs.Rights.{IsWithin}
use Rattle.cpi_calls.proofs.Within.{rights-within}
use Rattle.abi_input.specs.Region.{patched}
use Rattle.admission.specs.declared.chosen.Chosen.{Chosen}
use Rattle.admission.specs.Chosen.{IsChosen}
use Rattle.invoke_engine.specs.declared.call.Call.{Call}
use Rattle.invoke_engine.specs.declared.call.Setting.{Setting}
use Rattle.invoke_engine.specs.declared.stopped.Stopped.{Stopped}
use Rattle.invoke_engine.specs.declared.ending.Callee.{Callee}
use Rattle.invoke_engine.specs.Frames.{max_trace}
use Rattle.invoke_engine.specs.Frame.{Fixed, Carried, Running, Ending, Next, Runs, Done, Turn, GoesOn, Calls, Leaves, after, begun, follow, frame, go, instruction, nothing_returned, within}
use Rattle.invoke_engine.specs.FrameLaws.{AreListed}
use Rattle.invoke_engine.specs.Calling.{called, calling, requested, call_turn}
use Rattle.invoke_engine.specs.Endings.{closes, error_of}
use Rattle.invoke_engine.specs.Reasons.{plainly}
use Rattle.invoke_engine.specs.Leaving.{left}
use Rattle.invoke_engine.specs.Programs.{called_in, called_next}
use Rattle.invoke_engine.specs.Returning.{patching, returned, returning}
use Rattle.invoke_engine.specs.Serving.{serving, served, serve_turn}
use Rattle.invoke_engine.specs.Starting.{key_at}
use Rattle.invoke_engine.specs.Turns.{at_stop, run_to, turn}
use Rattle.invoke_engine.proofs.Foreign.{calls_foreign, frame_foreign, leaves_foreign}
use Rattle.invoke_engine.proofs.Fuel.{either}
use Rattle.invoke_engine.proofs.Keeping.{ComesFrom, called_from, left_settled, settled_keeps}
use Rattle.invoke_engine.proofs.Kept.{calls_by_rules, first_stretch, frame_keeps, next_stretch, same_stretch}
use Rattle.tx_exec.specs.declared.executing.Executed.{Executed}
use Rattle.tx_exec.specs.declared.failure.Failure.{Failure}
use Rattle.tx_exec.specs.Executing.{InBlock, call_of, executed, fixed_for, following, locks, performed}
use Rattle.tx_exec.specs.Payer.{charged, dropped, total_fee, less}
use Rattle.tx_exec.specs.Transaction.{by_drop, data_in, failing, finished, finishing, paid, ran, rent_broken, transaction}
use Rattle.tx_exec.proofs.Keeping.{IsThere, all_there, metas_there}
use Rattle.sol_base.specs.Keys.{same_key}
use Rattle.account_rules.proofs.Foreign.{IsForeignKept-same}
use Rattle.tx_exec.specs.Programs.{KeepsAllButTheFee}
use Rattle.std.proofs.lemmas.Option.{same_Some, slice_get-get_or, slice_get_within}
use Rattle.entry_laws.specs.Stretches.{ItsOwnerRests, IsChain, KeepsWhatIsNotItsOwn, Stretch, ends_in, stretch, stretches_after, stretches_in, stretches_next, stretches_of, stretches_of_all, stretches_of_instruction, stretches_of_turn, stretches_within}

-- ---- how many accounts a turn leaves
abbrev TurnCounts : ℕ → Running → Turn → Type 0
TurnCounts n f (GoesOn g d) = Unit {0}
TurnCounts n f (Calls g d callee units) = (length callee.accounts ≡ length f.before) × AreInRange n callee.call.metas
TurnCounts n f (Leaves e) = IfOk e.result (λ after. length after ≡ length f.before)

callee_counts : (most : ℕ) (keys outer : List Key) (f : Running) (c : Carried) (units : ℕ) (callee : Callee)
    → AreListed (length keys) f.metas f.before → ComesFrom most keys outer f c.trace (requested f).answer callee → TurnCounts (length keys) f (Calls f c callee units)
callee_counts most keys outer f c units callee listed from =
    let within : IsWithin from.request keys f.metas from.granted = rights-within from.request keys f.metas from.granted from.rights in (
      subst (λ (x : Callee). length x.accounts ≡ length f.before) from.is (settled_keeps (length keys) f from.accounts listed from.left).count,
      subst (λ (x : Callee). AreInRange (length keys) x.call.metas) from.is within.range,
    )

calling_counts : (outer keys : List Key) (f : Running) (c : Carried) (most units : ℕ) (result : Result Callee Stopped) → AreListed (length keys) f.metas f.before →
    ((callee : Callee) → result ≡ Ok callee → ComesFrom most keys outer f c.trace (requested f).answer callee) → TurnCounts (length keys) f (calling outer f c units result)
calling_counts outer keys f c most units (Ok callee) listed k = callee_counts most keys outer f c units callee listed (k callee refl)
calling_counts outer keys f c most units (Err stopped) listed k = tt

serving_counts : (n : ℕ) (outer : List Key) (f : Running) (c : Carried) (units : ℕ) (result : Result Service SysFault) → TurnCounts n f (serving outer f c units result)
serving_counts n outer f c units (Ok service) = tt
serving_counts n outer f c units (Err fault) = tt

leaving_counts : (outer : List Key) (f : Running) (c : Carried) (units : ℕ) (result : Result (List Account) Stopped)
    → ((accounts : List Account) → result ≡ Ok accounts → length accounts ≡ length f.before)
    → IfOk (closes outer f units c result).result (λ after. length after ≡ length f.before)
leaving_counts outer f c units (Ok accounts) k = k accounts refl
leaving_counts outer f c units (Err stopped) k = tt

stop_counts : (setting : Setting) (keys outer : List Key) (f : Running) (c : Carried) (stop : Option Stop)
    → AreListed (length keys) f.metas f.before → TurnCounts (length keys) f (at_stop setting keys outer f c stop)
stop_counts setting keys outer f c None listed = tt
stop_counts setting keys outer f c (Some (Exit r0)) listed =
    leaving_counts outer f c f.machine.units (left f r0) (λ accounts k. (settled_keeps (length keys) f accounts listed (left_settled f r0 accounts k)).count)
stop_counts setting keys outer f c (Some (Faulted fault)) listed = tt
stop_counts setting keys outer f c (Some (Helper number)) listed =
    either (TurnCounts (length keys) f) (number == invoke_call) (call_turn setting keys outer f c) (serve_turn setting outer f c number)
    (calling_counts outer keys f c setting.height (requested f).units
    (called setting.height keys outer f c.trace (requested f).answer) listed
    (λ callee k. called_from setting.height keys outer f c.trace (requested f).answer callee k))
    (serving_counts (length keys) outer f c (served setting outer f c number).units (served setting outer f c number).answer)

run_counts : (setting : Setting) (keys outer : List Key) (f : Running) (c : Carried) (o : Option State)
    → AreListed (length keys) f.metas f.before → TurnCounts (length keys) f (run_to setting keys outer f c o)
run_counts setting keys outer f c None listed = tt
run_counts setting keys outer f c (Some y) listed = stop_counts setting keys outer (record f { machine = y }) c y.stop listed

turn_counts : (setting : Setting) (keys outer : List Key) (f : Running) (c : Carried) → AreListed (length keys) f.metas f.before → TurnCounts (length keys) f (turn setting keys outer f c)
unfolding turn
turn_counts setting keys outer f c listed = run_counts setting keys outer f c (steps f.machine) listed

-- ---- chains
-- stretches that keep what is not their own, and where all ends well a chain to as many accounts
abbrev IsFine : {E : Type 0} → List Account → List Stretch → Result (List Account) E → Type 0
IsFine before parts result =
    AllByRecursion KeepsWhatIsNotItsOwn parts × IfOk result (λ after. IsChain before parts after × (length after ≡ length before))

all_both : (xs ys : List Stretch) → AllByRecursion KeepsWhatIsNotItsOwn xs → AllByRecursion KeepsWhatIsNotItsOwn ys → AllByRecursion KeepsWhatIsNotItsOwn (xs ++ ys)
all_both [] ys one two = two
all_both (x ∷ xs) ys one two = (one.0, all_both xs ys one.1 two)

chain_both : (a b c : List Account) (xs ys : List Stretch) → IsChain a xs b → IsChain b ys c → IsChain a (xs ++ ys) c
chain_both a b c [] ys one two = subst (λ (z : List Account). IsChain z ys c) (sym one) two
chain_both a b c (x ∷ xs) ys one two = (one.0, one.1, chain_both x.left b c xs ys one.2 two)

fine_both : {E : Type 0} (a b : List Account) (xs ys : List Stretch) (result : Result (List Account) E) → AllByRecursion KeepsWhatIsNotItsOwn xs → IsChain a xs b → length b ≡ length a
    → IsFine b ys result → IsFine a (xs ++ ys) result
fine_both a b xs ys (Ok after) all chain count fine = (all_both xs ys all fine.0, (chain_both a b after xs ys chain fine.1.0, fine.1.1 ∙ count))
fine_both a b xs ys (Err error) all chain count fine = (all_both xs ys all fine.0, tt)

-- the last stretch
ended : (program : Key) (before : List Account) (result : Result (List Account) InstructionError) → IfOk result (AreForeignKept (program ∷ []) before)
    → IfOk result (λ after. length after ≡ length before) → IsFine before (ends_in program before result) result
ended program before (Ok after) kept count = ((kept, tt), ((refl, count, refl), count))
ended program before (Err error) kept count = (tt, tt)

-- ---- frames
abbrev Goes : Type 0
Goes = List Key → Running → Carried → Ending

abbrev Parts : Type 0
Parts = List Key → Running → Carried → List Stretch

abbrev AllFine : ℕ → Goes → Parts → Type 0
AllFine n goo parts = (outer : List Key) (f : Running) (c : Carried) → AreListed n f.metas f.before → IsFine f.before (parts outer f c) (goo outer f c).result

-- a frame that runs on with the same list
runs_fine : (n : ℕ) (outer : List Key) (goo : Goes) (parts : Parts) (metas : List Meta) (before : List Account) (f : Running) (c : Carried) → AllFine n goo parts
    → AreListed n metas before → f.metas ≡ metas → f.before ≡ before → IsFine before (parts outer f c) (goo outer f c).result
runs_fine n outer goo parts metas before f c all listed same is =
    let here : AreListed n f.metas f.before = record { count = ap length is ∙ listed.count; range = subst (AreInRange n) (sym same) listed.range } in
    subst (λ (b : List Account). IsFine b (parts outer f c) (goo outer f c).result) is (all outer f c here)

abbrev IsGoodKept : List Meta → List Account → Result (List Account) InstructionError → Type 0
IsGoodKept metas before result = MatchResult result (λ after. AreKeptBy (is_listed_writable metas) before after) (λ _. Unit {0})

kept_count : (metas : List Meta) (before : List Account) (result : Result (List Account) InstructionError) → IsGoodKept metas before result → IfOk result (λ after. length after ≡ length before)
kept_count metas before (Ok after) kept = kept.count
kept_count metas before (Err error) kept = tt

-- a frame at its start
begun_fine : (s : Fixed) (outer : List Key) (goo : Goes) (parts : Parts) (call : Call) (accounts : List Account) (units : ℕ) (c : Carried) → AllFine (length s.keys) goo parts
    → AreListed (length s.keys) call.metas accounts
    → IsFine accounts (stretches_next (key_at s.keys call.program) accounts outer parts (begun s outer call accounts units c)) (after outer goo (begun s outer call accounts units c)).result
begun_fine s outer goo parts call accounts units c all listed = by_next (begun s outer call accounts units c) refl
  where
    counted : (e : Ending) → begun s outer call accounts units c ≡ Done e → IfOk e.result (λ after. length after ≡ length accounts)
    counted e h =
        kept_count call.metas accounts e.result
        (subst (λ (next : Next). IsGoodKept call.metas accounts (after outer (go s) next).result) h (frame_keeps s outer call accounts units c listed))

    by_next : (next : Next) → begun s outer call accounts units c ≡ next → IsFine accounts (stretches_next (key_at s.keys call.program) accounts outer parts next) (after outer goo next).result
    by_next (Runs f d) h =
        let first = first_stretch s outer call accounts units c d f h in
        runs_fine (length s.keys) outer goo parts call.metas accounts f d all listed first.1 first.2
    by_next (Done e) h =
        ended (key_at s.keys call.program) accounts e.result
        (subst (λ (next : Next). IfOk (after outer (go s) next).result (AreForeignKept (key_at s.keys call.program ∷ called_next outer (called_in s) next) accounts)) h
        (frame_foreign s outer call accounts units c listed))
        (counted e h)

-- where a callee has returned and the frame does not run on, it fails
abbrev FailsIfDone : Next → Type 0
FailsIfDone (Runs f c) = Unit {0}
FailsIfDone (Done e) = IfOk e.result (λ _. ⊥)

patching_fails : (outer : List Key) (f : Running) (accounts : List Account) (units : ℕ) (c : Carried) (answer : Result (List ℕ) ℕ) → FailsIfDone (patching outer f accounts units c answer)
patching_fails outer f accounts units c (Ok region) = tt
patching_fails outer f accounts units c (Err i) = tt

returning_fails : (outer : List Key) (f : Running) (units : ℕ) (c : Carried) (result : Result (List Account) InstructionError) → FailsIfDone (returning outer f units c result)
returning_fails outer f units c (Ok accounts) = patching_fails outer f accounts units c (patched f.machine.context.memory.input.bytes f.start accounts f.metas)
returning_fails outer f units c (Err error) = tt

returned_fails : (outer : List Key) (f : Running) (e : Ending) → FailsIfDone (returned outer f e)
unfolding returned
returned_fails outer f e = returning_fails outer f e.units e.carried e.result

-- a frame from a call on
module _ (n : ℕ) (outer : List Key) (goo : Goes) (parts : Parts) (all : AllFine n goo parts) (f g : Running)
    (listed : AreListed n f.metas f.before) (metas : g.metas ≡ f.metas) (inner : List Stretch) where
  resumed : (given : List Account) (e : Ending) (next : Next) → returned outer g e ≡ next → FailsIfDone next
      → KeepsWhatIsNotItsOwn (stretch f.program f.before given) → length given ≡ length f.before → IsFine given inner e.result
      → IsFine f.before (stretch f.program f.before given ∷ (inner ++ stretches_next f.program f.before outer parts next)) (after outer goo next).result
  resumed given e (Runs h d) is fails kept count its =
      let back = next_stretch outer g h e d is in
      let ended : IsFine {E = InstructionError} given inner (Ok h.before) = subst (λ (r : Result (List Account) InstructionError). IsFine given inner r) back.2 its in
      let there : AreListed n f.metas h.before = record { count = ended.1.1 ∙ count ∙ listed.count; range = listed.range } in
      let rest : IsFine h.before (parts outer h d) (goo outer h d).result = runs_fine n outer goo parts f.metas h.before h d all there (back.1 ∙ metas) refl in
      fine_both f.before h.before (stretch f.program f.before given ∷ inner) (parts outer h d) (goo outer h d).result
      (kept, ended.0) (refl, count, ended.1.0) (ended.1.1 ∙ count) rest
  resumed given e (Done last) is fails kept count its = ((kept, all_both inner (ends_in f.program f.before last.result) its.0 (none last.result fails)), failed last.result fails)
    where
      none : (result : Result (List Account) InstructionError) → IfOk result (λ _. ⊥) → AllByRecursion KeepsWhatIsNotItsOwn (ends_in f.program f.before result)
      none (Ok left) never = absurd never
      none (Err error) never = tt

      failed : (result : Result (List Account) InstructionError) → IfOk result (λ _. ⊥)
          → IfOk result (λ after. IsChain f.before (stretch f.program f.before given ∷ (inner ++ ends_in f.program f.before result)) after × (length after ≡ length f.before))
      failed (Ok left) never = absurd never
      failed (Err error) never = tt

turn_fine : (s : Fixed) (outer : List Key) (goo : Goes) (parts : Parts) (f : Running) (c : Carried) (t : Turn) → AllFine (length s.keys) goo parts
    → AreListed (length s.keys) f.metas f.before → turn s.setting s.keys outer f c ≡ t → TurnCounts (length s.keys) f t
    → IsFine f.before (stretches_of_turn s outer goo parts f t) (follow s outer goo t).result
turn_fine s outer goo parts f c (GoesOn g d) all listed is counts =
    let same = same_stretch s.setting s.keys outer f g c d is in
    runs_fine (length s.keys) outer goo parts f.metas f.before g d all listed same.1 same.2
turn_fine s outer goo parts f c (Calls g d callee units) all listed is counts =
    let same = calls_by_rules s.setting s.keys outer f g c d callee units is in
    let inner : List Key = g.program ∷ outer in
    let next : Next = begun s inner callee.call callee.accounts units d in
    let there : AreListed (length s.keys) callee.call.metas callee.accounts = record { count = counts.0 ∙ listed.count; range = counts.1 } in
    let its : IsFine callee.accounts (stretches_next (key_at s.keys callee.call.program) callee.accounts inner parts next) (after inner goo next).result =
    begun_fine s inner goo parts callee.call callee.accounts units d all there in
    resumed (length s.keys) outer goo parts all f g listed same.1
    (stretches_next (key_at s.keys callee.call.program) callee.accounts inner parts next)
    callee.accounts (after inner goo next) (returned outer g (after inner goo next)) refl (returned_fails outer g (after inner goo next))
    (calls_foreign s.setting s.keys outer f g c d callee units listed is) counts.0 its
turn_fine s outer goo parts f c (Leaves e) all listed is counts = ended f.program f.before e.result (leaves_foreign s.setting s.keys outer f c e listed is) counts

within_fine : (s : Fixed) (n : ℕ) → AllFine (length s.keys) (within s n) (stretches_within s n)
unfolding within stretches_within
within_fine s zero outer f c listed = (tt, tt)
within_fine s (suc n) outer f c listed =
    turn_fine s outer (within s n) (stretches_within s n) f c (turn s.setting s.keys outer f c) (within_fine s n) listed refl (turn_counts s.setting s.keys outer f c listed)

instruction_fine : (s : Fixed) (call : Call) (accounts : List Account) (units trace : ℕ) (log : Log) → AreListed (length s.keys) call.metas accounts
    → IsFine accounts (stretches_of_instruction s call accounts units trace log) (instruction s call accounts units trace log).result
instruction_fine s call accounts units trace log listed = by_test (nat_le max_trace trace)
  where
    by_test : (b : Bool) → IsFine accounts
        (cond b [] (stretches_next (key_at s.keys call.program) accounts [] (stretches_in s) (begun s [] call accounts units (nothing_returned trace log))))
        (cond b (record { units = units; carried = nothing_returned trace log; result = Err (error_of 1 (plainly TraceTooLong)) })
        (frame s [] call accounts units (nothing_returned trace log))).result
    by_test true = (tt, tt)
    by_test false = begun_fine s [] (go s) (stretches_in s) call accounts units (nothing_returned trace log) (λ o f d here. within_fine s (suc f.machine.units) o f d here) listed

-- ---- transactions
follow_fine : (t : Chosen) (index : ℕ) (on : List Account → ℕ → ℕ → Log → Executed) (lists : List Account → ℕ → ℕ → Log → List Stretch) (first : List Stretch) (a : List Account)
    (result : Result (List Account) InstructionError) (e : Ending)
    → ((b : List Account) (units trace : ℕ) (log : Log) → length b ≡ length a → IsFine b (lists b units trace log) (on b units trace log).result)
    → IsFine a first result → IsFine a (first ++ stretches_after lists result e) (following index on result e).result
follow_fine t index on lists first a (Ok b) e all one =
    fine_both a b first (lists b e.units e.carried.trace e.carried.log) (on b e.units e.carried.trace e.carried.log).result one.0 one.1.0 one.1.1
    (all b e.units e.carried.trace e.carried.log one.1.1)
follow_fine t index on lists first a (Err error) e all one = (all_both first [] one.0 tt, tt)

executed_fine : (block : InBlock) (t : Chosen) (index : ℕ) (is : List Instruction) (a : List Account) (units trace : ℕ) (log : Log) → All (IsThere t) is
    → length a ≡ length (all_keys t.tx.message t.loaded)
    → IsFine a (stretches_of_all (fixed_for block t) t is a units trace log) (executed (fixed_for block t) t index is a units trace log).result
unfolding executed stretches_of_all
executed_fine block t index [] a units trace log there count = (tt, (refl, refl))
executed_fine block t index (i ∷ is) a units trace log there count =
    let s : Fixed = fixed_for block t in
    let e : Ending = instruction s (call_of t i) a units trace log in
    let listed : AreListed (length s.keys) (call_of t i).metas a =
    record { count = count; range = metas_there t (length (all_keys t.tx.message t.loaded)) i.accounts (All-head (IsThere t) i is there) } in
    follow_fine t index (executed s t (index + 1) is) (stretches_of_all s t is) (stretches_of_instruction s (call_of t i) a units trace log) a e.result e
    (λ b u n l same. executed_fine block t (index + 1) is b u n l (All-tail (IsThere t) i is there) (same ∙ count))
    (instruction_fine s (call_of t i) a units trace log listed)

charged_count : (values : List Account) (fee : ℕ) → length (charged values fee) ≡ length values
charged_count [] fee = refl
charged_count (payer ∷ others) fee = refl

finished_chain : (t : Chosen) (base : List Account) (parts : List Stretch) (units : ℕ) (lines : List (List ℕ)) (result : Result (List Account) Failure)
    → IsFine base parts result → (finished t base units lines result).outcome.status ≡ Good → IsChain base parts (finished t base units lines result).values
finished_chain t base parts units lines (Err f) fine good = absurd (cc)
finished_chain t base parts units lines (Ok after) fine good = by_rent (rent_broken (locks t) base after) good
  where
    by_rent : (o : Option ℕ) → (finishing t base units lines after o).outcome.status ≡ Good → IsChain base parts (finishing t base units lines after o).values
    by_rent None good = fine.1.0
    by_rent (Some place) good = absurd (cc)

paid_chain : (s : Fixed) (t : Chosen) (base : List Account) (parts : List Stretch) → IsFine base parts (performed s t base).result
    → (paid s t base).outcome.status ≡ Good → IsChain base parts (paid s t base).values
paid_chain s t base parts fine good = by_size (nat_lt t.budget.loaded (data_in base)) good
  where
    by_size : (b : Bool) → (cond b (failing t base (record { index = whole_transaction; cause = LoadedDataTooLarge; detail = 0 }) 0 []) (ran t base (performed s t base))).outcome.status ≡ Good
        → IsChain base parts (cond b (failing t base (record { index = whole_transaction; cause = LoadedDataTooLarge; detail = 0 }) 0 []) (ran t base (performed s t base))).values
    by_size true good = absurd (cc)
    by_size false good = finished_chain t base parts (t.budget.limit - (performed s t base).units) (performed s t base).log.lines (performed s t base).result fine good

-- the stretches of a transaction keep what is not their own, and where it ends well they are a chain
pub transaction_stretches : (block : InBlock) (t : Chosen) (values : List Account) → IsChosen t → length values ≡ length (all_keys t.tx.message t.loaded)
    → AllByRecursion KeepsWhatIsNotItsOwn (stretches_of block t values)
    × ((transaction block t values).outcome.status ≡ Good → IsChain (charged values (total_fee t)) (stretches_of block t values) (transaction block t values).values)
unfolding transaction
transaction_stretches block t values is count = (fine.0, by_cause (dropped values (total_fee t)))
  where
    fine : IsFine (charged values (total_fee t)) (stretches_of block t values) (performed (fixed_for block t) t (charged values (total_fee t))).result
    fine = executed_fine block t 0 t.tx.message.instructions (charged values (total_fee t)) t.budget.limit 0 no_lines (all_there t is) (charged_count values (total_fee t) ∙ count)

    by_cause : (o : Option DropCause) → (by_drop (fixed_for block t) t values o).outcome.status ≡ Good
        → IsChain (charged values (total_fee t)) (stretches_of block t values) (by_drop (fixed_for block t) t values o).values
    by_cause (Some cause) good = absurd (cc)
    by_cause None good = paid_chain (fixed_for block t) t (charged values (total_fee t)) (stretches_of block t values) fine good

-- ---- one account along a chain
along_chain : (place : ℕ) (first : List Account) (xs : List Stretch) (last : List Account) → IsChain first xs last → AllByRecursion KeepsWhatIsNotItsOwn xs
    → AllByRecursion (λ x. (was : Account) → slice_get x.before place ≡ Some was → same_key was.owner x.program ≡ false) xs
    → (was left : Account) → slice_get first place ≡ Some was → slice_get last place ≡ Some left → IsForeignKept was left
along_chain place first [] last chain kept rests was left there here =
    IsForeignKept-same was left (same_Some was left (sym there ∙ ap (λ (accounts : List Account). slice_get accounts place) chain ∙ here))
along_chain place first (x ∷ xs) last chain kept rests was left there here =
    let begins : slice_get x.before place ≡ Some was = ap (λ (accounts : List Account). slice_get accounts place) chain.0 ∙ there in
    let within : place < length x.before = slice_get_within x.before place was begins in
    let count = chain.1 in
    let mid : Account = get_or x.left place was in
    let between : slice_get x.left place ≡ Some mid = slice_get-get_or x.left place was (omega (arith, within, count)) in
    let one : IsForeignKept was mid = kept.0 place was mid begins between (ap (λ (b : Bool). b || false) (rests.0 was begins)) in
    let two : IsForeignKept mid left = along_chain place x.left xs last chain.2 kept.1 rests.1 mid left between here in
    let least = one.lamports in
    let most = two.lamports in
    record { owner = two.owner ∙ one.owner; bytes = two.bytes ∙ one.bytes; lamports = omega (arith, least, most) }

-- what is kept of an account once the fee is taken
but_the_fee : (t : Chosen) (values : List Account) (place : ℕ) (was left : Account) → ((now : Account) → slice_get (charged values (total_fee t)) place ≡ Some now → IsForeignKept now left)
    → slice_get values place ≡ Some was → KeepsAllButTheFee t place was left
but_the_fee t [] place was left kept there = absurd (cc)
but_the_fee t (payer ∷ others) zero was left kept there =
    let is : IsForeignKept (less payer (total_fee t)) left = kept (less payer (total_fee t)) refl in
    let least : payer.lamports - total_fee t ≤ left.lamports = is.lamports in
    subst (λ (a : Account). KeepsAllButTheFee t zero a left) (same_Some payer was there) (record { owner = is.owner; bytes = is.bytes; lamports = omega (arith, least) })
but_the_fee t (payer ∷ others) (suc place) was left kept there =
    let is : IsForeignKept was left = kept was there in
    let least : was.lamports ≤ left.lamports = is.lamports in
    record { owner = is.owner; bytes = is.bytes; lamports = omega (arith, least) }

-- an account whose owner rests keeps all but the fee
pub resting_keeps : (t : Chosen) (values last : List Account) (parts : List Stretch) → IsChain (charged values (total_fee t)) parts last → AllByRecursion KeepsWhatIsNotItsOwn parts
    → (place : ℕ) (was left : Account) → slice_get values place ≡ Some was → slice_get last place ≡ Some left → ItsOwnerRests place parts → KeepsAllButTheFee t place was left
resting_keeps t values last parts chain kept place was left there here rests =
    but_the_fee t values place was left
    (λ now begins. along_chain place (charged values (total_fee t)) parts last chain kept
    (recursion_from_All (λ (x : Stretch). (was : Account) → slice_get x.before place ≡ Some was → same_key was.owner x.program ≡ false) parts rests) now left begins here)
    there

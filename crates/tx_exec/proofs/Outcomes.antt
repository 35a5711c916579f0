-- The outcome of a transaction: its status, its units and its lines.
use Rattle.std.proofs.Common.{◌≡◌, ◌≤◌, ◌<◌, ◌+◌, ◌-◌, ◌^◌, ℕ, List, [], ◌∷◌, length, Bool, true, false, cond, Option, Some, None, Result, Ok, Err, refl, lit<, arith}
use Rattle.std.specs.Prelude.{IfErr, IfSome, nat_le, nat_lt, position}
use Rattle.std.specs.List.{position_or_len, zip}
use Rattle.std.proofs.lemmas.Bool.{cond_both, ltb-true}
use Rattle.std.proofs.lemmas.Bool.Decides.{nat_tests}
use Rattle.std.proofs.lemmas.Slice.Zip.{length-zip}
use Rattle.sol_base.specs.declared.account.Account.{Account}
use Rattle.sol_base.specs.Limits.{max_transaction_keys}
use Rattle.message_codec.specs.declared.message.Instruction.{Instruction}
use Rattle.message_codec.proofs.RoleLaws.{all_most, lock_count}
use Rattle.tx_report.specs.LogLines.{AreLogged, Log, no_lines}
use Rattle.tx_report.specs.Statuses.{IsStatus}
use Rattle.tx_report.specs.declared.cause.DropCause.{DropCause}
use Rattle.tx_report.specs.declared.status.InstructionError.{InstructionError}
use Rattle.tx_report.proofs.GrownLogs.{AreLogged-grown, AreLogged-none}
use Rattle.admission.specs.declared.chosen.Chosen.{Chosen}
use Rattle.admission.specs.Chosen.{IsChosen}
use Rattle.invoke_engine.specs.Frame.{Ending, Fixed, instruction}
use Rattle.invoke_engine.specs.Frames.{max_trace}
use Rattle.invoke_engine.specs.declared.call.Call.{Call}
use Rattle.invoke_engine.proofs.Fuel.{instruction_units}
use Rattle.invoke_engine.proofs.Refused.{instruction-error}
use Rattle.invoke_engine.proofs.Traces.{instruction_counts}
use Rattle.tx_exec.specs.Payer.{charged, dropped, total_fee}
use Rattle.tx_exec.specs.Executing.{Executed, Failure, InBlock, call_of, executed, fixed_for, following, locks, performed}
use Rattle.tx_exec.specs.Transaction.{Transacted, by_drop, data_in, finished, finishing, is_broken, ran, rent_broken, transaction}
use Rattle.tx_exec.specs.TransactionLaws.{IsOutcomeOf, UnitsAddUp}
use Rattle.tx_exec.proofs.GrownLogs.{performed_grows}
use Rattle.tx_exec.proofs.Steps.{late, refused}

-- ---- failures
abbrev FailureFits : Failure → Type 0
FailureFits f = (f.index < 256) × (f.detail < 2 ^ 32)

abbrev ResultFits : Result (List Account) Failure → Type 0
ResultFits result = IfErr result FailureFits

-- an instruction that ended well was one of the first 64
module _ (s : Fixed) (call : Call) (a : List Account) (units trace : ℕ) (log : Log) where
  abbrev ending : Ending
  ending = instruction s call a units trace log

  goes_on : (index : ℕ) (b : List Account) → index ≤ trace → ending.result ≡ Ok b → (index + 1 ≤ ending.carried.trace) × (index + 1 ≤ max_trace)
  goes_on index b counted good = by_test (nat_le max_trace trace) refl
    where
      by_test : (t : Bool) → nat_le max_trace trace ≡ t → (index + 1 ≤ ending.carried.trace) × (index + 1 ≤ max_trace)
      by_test true e = absurd (refused (late (nat_le max_trace trace) _ _ b good e))
      by_test false e =
          let few : trace < max_trace = grind (arith, nat_tests) in
          let more = instruction_counts s call a units trace log few in
          (omega (arith, more, counted), omega (arith, few, counted))

follow_fits : (index : ℕ) (on : List Account → ℕ → ℕ → Log → Executed) (e : Ending) (result : Result (List Account) InstructionError) → index < 256 → IfErr result (λ error. error.detail < 2 ^ 32) →
    ((b : List Account) → result ≡ Ok b → ResultFits (on b e.units e.carried.trace e.carried.log).result) → ResultFits (following index on result e).result
follow_fits index on e (Ok b) few h all = all b refl
follow_fits index on e (Err error) few h all = (few, h)

executed_fits : (s : Fixed) (t : Chosen) (index : ℕ) (is : List Instruction) (a : List Account)
    (units trace : ℕ) (log : Log) → index ≤ trace → index ≤ max_trace
    → ResultFits (executed s t index is a units trace log).result
unfolding executed
executed_fits s t index [] a units trace log counted few = tt
executed_fits s t index (i ∷ is) a units trace log counted few =
    let e : Ending = instruction s (call_of t i) a units trace log in
    follow_fits index (executed s t (index + 1) is) e e.result (omega (arith, few)) (instruction-error s (call_of t i) a units trace log)
    (λ b good. let next = goes_on s (call_of t i) a units trace log index b counted good in executed_fits s t (index + 1) is b e.units e.carried.trace e.carried.log next.0 next.1)

performed_fits : (s : Fixed) (t : Chosen) (base : List Account) → ResultFits (performed s t base).result
performed_fits s t base = executed_fits s t 0 t.tx.message.instructions base t.budget.limit 0 no_lines (omega arith) (omega arith)

-- ---- the key whose rent is broken
position_below : {X : Type 0} (test : X → Bool) (xs : List X) → IfSome (position test xs) (λ i. i < length xs)
position_below test xs = by_test (nat_lt (position_or_len test xs) (length xs)) refl
  where
    by_test : (b : Bool) → nat_lt (position_or_len test xs) (length xs) ≡ b → IfSome (cond b (Some (position_or_len test xs)) None) (λ i. i < length xs)
    by_test true e = ltb-true (position_or_len test xs) (length xs) e
    by_test false e = tt

rent_fits : (t : Chosen) → IsChosen t → (base after : List Account) → IfSome (rent_broken (locks t) base after) (λ place. place < 2 ^ 32)
rent_fits t is base after = by_place (rent_broken (locks t) base after) (position_below is_broken (zip (locks t) (zip base after)))
  where
    by_place : (o : Option ℕ) → IfSome o (λ i. i < length (zip (locks t) (zip base after))) → IfSome o (λ place. place < 2 ^ 32)
    by_place None h = tt
    by_place (Some i) h =
        let long = length-zip (locks t) (zip base after) in
        let count = lock_count t.tx.message t.loaded in
        let most = all_most t.tx max_transaction_keys t.loaded is.sane is.loaded in
        omega (arith, h, long, count, most)

-- ---- the status
finished_fits : (t : Chosen) → IsChosen t
    → (base : List Account) (units : ℕ) (lines : List (List ℕ)) (result : Result (List Account) Failure)
    → ResultFits result → IsStatus (finished t base units lines result).outcome.status
finished_fits t is base units lines (Err f) h = h
finished_fits t is base units lines (Ok after) h = by_rent (rent_broken (locks t) base after) (rent_fits t is base after)
  where
    by_rent : (o : Option ℕ) → IfSome o (λ place. place < 2 ^ 32) → IsStatus (finishing t base units lines after o).outcome.status
    by_rent None k = tt
    by_rent (Some place) k = (lit< tt, k)

-- ---- the units
follow_units : (limit index : ℕ) (on : List Account → ℕ → ℕ → Log → Executed) (e : Ending) (result : Result (List Account) InstructionError) → e.units ≤ limit →
    ((b : List Account) (units trace : ℕ) (log : Log) → units ≤ limit → (on b units trace log).units ≤ limit) → (following index on result e).units ≤ limit
follow_units limit index on e (Ok b) h all = all b e.units e.carried.trace e.carried.log h
follow_units limit index on e (Err error) h all = h

executed_units : (limit : ℕ) (s : Fixed) (t : Chosen) (index : ℕ) (is : List Instruction) (a : List Account)
    (units trace : ℕ) (log : Log) → units ≤ limit → (executed s t index is a units trace log).units ≤ limit
unfolding executed
executed_units limit s t index [] a units trace log h = h
executed_units limit s t index (i ∷ is) a units trace log h =
    let e : Ending = instruction s (call_of t i) a units trace log in
    let less : e.units ≤ units = instruction_units s (call_of t i) a units trace log in
    follow_units limit index (executed s t (index + 1) is) e e.result (omega (arith, less, h)) (λ b u n l k. executed_units limit s t (index + 1) is b u n l k)

pub performed_units : (s : Fixed) (t : Chosen) (base : List Account) → (performed s t base).units ≤ t.budget.limit
performed_units s t base = executed_units t.budget.limit s t 0 t.tx.message.instructions base t.budget.limit 0 no_lines (omega arith)

finished_units : (t : Chosen) (base : List Account) (units : ℕ) (lines : List (List ℕ)) (result : Result (List Account) Failure) → (finished t base units lines result).outcome.units ≡ units
finished_units t base units lines (Err f) = refl
finished_units t base units lines (Ok after) = by_rent (rent_broken (locks t) base after)
  where
    by_rent : (o : Option ℕ) → (finishing t base units lines after o).outcome.units ≡ units
    by_rent (Some place) = refl
    by_rent None = refl

-- units used are no cut difference
pub units_add_up : (block : InBlock) (t : Chosen) (base : List Account) → UnitsAddUp t base (performed (fixed_for block t) t base)
units_add_up block t base =
    let e : Executed = performed (fixed_for block t) t base in
    let left : e.units ≤ t.budget.limit = performed_units (fixed_for block t) t base in
    let used = finished_units t base (t.budget.limit - e.units) e.log.lines e.result in
    omega (arith, left, used)

-- ---- the lines
finished_lines : (t : Chosen) (base : List Account) (units : ℕ) (lines : List (List ℕ))
    (result : Result (List Account) Failure) → AreLogged lines
    → AreLogged (finished t base units lines result).outcome.lines
finished_lines t base units lines (Err f) logged = logged
finished_lines t base units lines (Ok after) logged = by_rent (rent_broken (locks t) base after)
  where
    by_rent : (o : Option ℕ) → AreLogged (finishing t base units lines after o).outcome.lines
    by_rent (Some place) = logged
    by_rent None = logged

-- ---- the whole
ran_outcome : (block : InBlock) (t : Chosen) → IsChosen t → (base : List Account) → IsOutcomeOf t (ran t base (performed (fixed_for block t) t base)).outcome
ran_outcome block t is base =
    let s : Fixed = fixed_for block t in
    let e : Executed = performed s t base in
    let used = finished_units t base (t.budget.limit - e.units) e.log.lines e.result in
    record {
      status = finished_fits t is base (t.budget.limit - e.units) e.log.lines e.result (performed_fits s t base);
      units = omega (arith, used);
      lines = finished_lines t base (t.budget.limit - e.units) e.log.lines e.result (AreLogged-grown e.log (performed_grows s t base));
    }

pub transaction_outcome : (block : InBlock) (t : Chosen) (values : List Account) → IsChosen t → IsOutcomeOf t (transaction block t values).outcome
unfolding transaction
transaction_outcome block t values is = by_cause (dropped values (total_fee t))
  where
    by_cause : (o : Option DropCause) → IsOutcomeOf t (by_drop (fixed_for block t) t values o).outcome
    by_cause (Some cause) = record { status = tt; units = omega arith; lines = AreLogged-none }
    by_cause None =
        let base : List Account = charged values (total_fee t) in
        cond_both (nat_lt t.budget.loaded (data_in base)) _ _ (λ (x : Transacted). IsOutcomeOf t x.outcome)
        (λ _. record { status = (lit< tt, lit< tt); units = omega arith; lines = AreLogged-none })
        (λ _. ran_outcome block t is base)

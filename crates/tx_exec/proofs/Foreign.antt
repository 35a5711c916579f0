-- A transaction keeps the accounts whose owners do not run in it.
use Rattle.std.proofs.Common.{◌≡◌, ◌≤◌, ◌+◌, ◌-◌, ◌∷◌, ◌++◌, [], ℕ, zero, suc, length, All, List, Option, Some, None, Result, Ok, Err, refl, sym, ap, subst, ◌∙◌, arith}
use Rattle.std.specs.Prelude.{IfOk, nat_lt}
use Rattle.std.proofs.lemmas.Bool.{cond_both}
use Rattle.std.proofs.lemmas.List.Elements.{All-head, All-tail}
use Rattle.std.proofs.lemmas.Option.{same_Some}
use Rattle.sol_base.specs.declared.key.Key.{Key}
use Rattle.sol_base.specs.declared.account.Account.{Account}
use Rattle.sol_base.specs.Keys.{has_key}
use Rattle.account_rules.specs.KeptAccounts.{AreForeignKept, IsForeignKept}
use Rattle.account_rules.proofs.Foreign.{AreForeignKept-refl, AreForeignKept-fewer, AreForeignKept-trans, IsForeignKept-same, has_key-append}
use Rattle.message_codec.specs.declared.message.Instruction.{Instruction}
use Rattle.message_codec.specs.Roles.{all_keys}
use Rattle.tx_report.specs.LogLines.{Log, no_lines}
use Rattle.tx_report.specs.declared.cause.DropCause.{DropCause}
use Rattle.tx_report.specs.declared.status.InstructionError.{InstructionError}
use Rattle.admission.specs.declared.chosen.Chosen.{Chosen}
use Rattle.admission.specs.Chosen.{IsChosen}
use Rattle.invoke_engine.specs.FrameLaws.{AreListed}
use Rattle.invoke_engine.specs.Frame.{Ending, Fixed, instruction}
use Rattle.invoke_engine.specs.Programs.{programs_of_instruction}
use Rattle.invoke_engine.proofs.Foreign.{instruction_foreign}
use Rattle.tx_exec.specs.Payer.{charged, dropped, less, total_fee}
use Rattle.tx_exec.specs.Executing.{Executed, Failure, InBlock, call_of, executed, fixed_for, following, locks, performed}
use Rattle.tx_exec.specs.Programs.{KeepsAllButTheFee, KeepsForeign, programs_after, programs_of, programs_of_all}
use Rattle.tx_exec.specs.Transaction.{Transacted, by_drop, data_in, finished, finishing, rent_broken, transaction}
use Rattle.tx_exec.proofs.Keeping.{GoodKeeps, IsThere, all_there, instruction_keeps, metas_there}

abbrev EndForeign : {E : Type 0} → List Key → List Account → Result (List Account) E → Type 0
EndForeign programs before result = IfOk result (λ after. AreForeignKept programs before after)

-- ---- the instructions
goes_on : (programs later : List Key) (a b c : List Account) → length b ≡ length a → AreForeignKept programs a b → AreForeignKept later b c → AreForeignKept (programs ++ later) a c
goes_on programs later a b c count one two =
    AreForeignKept-trans (programs ++ later) a b c count
    (AreForeignKept-fewer programs (programs ++ later) a b (λ owner none. (has_key-append owner programs later none).0) one)
    (AreForeignKept-fewer later (programs ++ later) b c (λ owner none. (has_key-append owner programs later none).1) two)

follow_foreign : (t : Chosen) (index : ℕ) (on : List Account → ℕ → ℕ → Log → Executed)
    (lists : List Account → ℕ → ℕ → Log → List Key) (programs : List Key) (a : List Account)
    (result : Result (List Account) InstructionError) (e : Ending) →
    ((b : List Account) (units trace : ℕ) (log : Log) → length b ≡ length a
    → EndForeign (lists b units trace log) b (on b units trace log).result) → GoodKeeps t a result
    → EndForeign programs a result
    → EndForeign (programs ++ programs_after lists result e) a (following index on result e).result
follow_foreign t index on lists programs a (Ok b) e all k one = through (on b e.units e.carried.trace e.carried.log).result (all b e.units e.carried.trace e.carried.log k.count)
  where
    through : (result : Result (List Account) Failure)
        → EndForeign (lists b e.units e.carried.trace e.carried.log) b result
        → EndForeign (programs ++ lists b e.units e.carried.trace e.carried.log) a result
    through (Ok c) two = goes_on programs (lists b e.units e.carried.trace e.carried.log) a b c k.count one two
    through (Err f) two = tt
follow_foreign t index on lists programs a (Err error) e all k one = tt

executed_foreign : (block : InBlock) (t : Chosen) (index : ℕ) (is : List Instruction) (a : List Account)
    (units trace : ℕ) (log : Log) → All (IsThere t) is → length a ≡ length (all_keys t.tx.message t.loaded)
    → EndForeign (programs_of_all (fixed_for block t) t is a units trace log) a (executed (fixed_for block t) t index is a units trace log).result
unfolding executed programs_of_all
executed_foreign block t index [] a units trace log there count = AreForeignKept-refl [] a
executed_foreign block t index (i ∷ is) a units trace log there count =
    let s : Fixed = fixed_for block t in
    let e : Ending = instruction s (call_of t i) a units trace log in
    let listed : AreListed (length s.keys) (call_of t i).metas a =
    record {
      count = count;
      range = metas_there t (length (all_keys t.tx.message t.loaded)) i.accounts
          (All-head (IsThere t) i is there);
    } in
    follow_foreign t index (executed s t (index + 1) is) (programs_of_all s t is) (programs_of_instruction s (call_of t i) a units trace log) a e.result e
    (λ b u n l same. executed_foreign block t (index + 1) is b u n l (All-tail (IsThere t) i is there) (same ∙ count))
    (instruction_keeps s t i a units trace log refl (All-head (IsThere t) i is there) count)
    (instruction_foreign s (call_of t i) a units trace log listed)

-- ---- the fee
all_kept : (t : Chosen) (programs : List Key) (values : List Account) → KeepsForeign t programs values values
all_kept t programs values place was is there here foreign =
    let same : was ≡ is = same_Some was is (sym there ∙ here) in
    let kept : IsForeignKept was is = IsForeignKept-same was is same in
    let least : was.lamports ≤ is.lamports = kept.lamports in
    record { owner = kept.owner; bytes = kept.bytes; lamports = omega (arith, least) }

-- what the fee leaves of the first account, and then what programs leave
from_charged : (t : Chosen) (programs : List Key) (values after : List Account) → AreForeignKept programs (charged values (total_fee t)) after → KeepsForeign t programs values after
from_charged t programs [] after rest place was is there here foreign = absurd (cc)
from_charged t programs (payer ∷ others) after rest zero was is there here foreign =
    let same : payer ≡ was = cc in
    let kept : IsForeignKept (less payer (total_fee t)) is = rest zero (less payer (total_fee t)) is refl here (ap (λ (a : Account). has_key a.owner programs) same ∙ foreign) in
    let least : payer.lamports - total_fee t ≤ is.lamports = kept.lamports in
    subst (λ (a : Account). KeepsAllButTheFee t zero a is) same (record { owner = kept.owner; bytes = kept.bytes; lamports = omega (arith, least) })
from_charged t programs (payer ∷ others) after rest (suc place) was is there here foreign =
    let kept : IsForeignKept was is = rest (suc place) was is there here foreign in
    let least : was.lamports ≤ is.lamports = kept.lamports in
    record { owner = kept.owner; bytes = kept.bytes; lamports = omega (arith, least) }

count_charged : (values : List Account) (fee : ℕ) → length (charged values fee) ≡ length values
count_charged [] fee = refl
count_charged (payer ∷ others) fee = refl

-- ---- the whole
finished_foreign : (t : Chosen) (programs : List Key) (values : List Account) (units : ℕ)
    (lines : List (List ℕ)) (result : Result (List Account) Failure)
    → EndForeign programs (charged values (total_fee t)) result
    → KeepsForeign t programs values (finished t (charged values (total_fee t)) units lines result).values
finished_foreign t programs values units lines (Err f) k = from_charged t programs values (charged values (total_fee t)) (AreForeignKept-refl programs (charged values (total_fee t)))
finished_foreign t programs values units lines (Ok after) k = by_rent (rent_broken (locks t) (charged values (total_fee t)) after)
  where
    by_rent : (o : Option ℕ) → KeepsForeign t programs values (finishing t (charged values (total_fee t)) units lines after o).values
    by_rent (Some place) = from_charged t programs values (charged values (total_fee t)) (AreForeignKept-refl programs (charged values (total_fee t)))
    by_rent None = from_charged t programs values after k

-- no program touches an account that it does not own
pub transaction_foreign : (block : InBlock) (t : Chosen) (values : List Account) → IsChosen t
    → length values ≡ length (all_keys t.tx.message t.loaded)
    → KeepsForeign t (programs_of block t values) values (transaction block t values).values
unfolding transaction
transaction_foreign block t values is count = by_cause (dropped values (total_fee t))
  where
    by_cause : (o : Option DropCause) → KeepsForeign t (programs_of block t values) values (by_drop (fixed_for block t) t values o).values
    by_cause (Some cause) = all_kept t (programs_of block t values) values
    by_cause None =
        let base : List Account = charged values (total_fee t) in
        cond_both (nat_lt t.budget.loaded (data_in base)) _ _ (λ (x : Transacted). KeepsForeign t (programs_of block t values) values x.values)
        (λ _. from_charged t (programs_of block t values) values base (AreForeignKept-refl (programs_of block t values) base))
        (λ _. finished_foreign t (programs_of block t values) values _ _ (performed (fixed_for block t) t base).result
        (executed_foreign block t 0 t.tx.message.instructions base t.budget.limit 0 no_lines (all_there t is) (count_charged values (total_fee t) ∙ count)))

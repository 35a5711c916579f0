-- A transaction leaves accounts whose owners have 32 bytes each.
use Rattle.std.proofs.Common.{◌==◌, ◌+◌, ◌-◌, ℕ, List, [], ◌∷◌, length, map, Bool, true, false, cond, Option, Some, None, Result, Ok, Err, All}
use Rattle.std.specs.Prelude.{MatchResult, nat_lt}
use Rattle.std.proofs.lemmas.List.Elements.{All-from_recursion, All-head, All-tail}
use Rattle.sol_base.specs.declared.account.Account.{Account}
use Rattle.sol_base.specs.declared.lock.Lock.{Lock}
use Rattle.sol_base.specs.Accounts.{empty_account}
use Rattle.sol_base.specs.Keys.{IsKey}
use Rattle.message_codec.specs.declared.message.Instruction.{Instruction}
use Rattle.message_codec.specs.Roles.{all_keys}
use Rattle.tx_report.specs.LogLines.{Log, no_lines}
use Rattle.tx_report.specs.declared.cause.DropCause.{DropCause}
use Rattle.tx_report.specs.declared.status.InstructionError.{InstructionError}
use Rattle.account_store.specs.State.{settled}
use Rattle.admission.specs.declared.chosen.Chosen.{Chosen}
use Rattle.admission.specs.Chosen.{IsChosen}
use Rattle.bank_law.specs.Lawful.{Fits, lent_for_writing}
use Rattle.invoke_engine.specs.Conditions.{AreAccountsOf, EndingFits}
use Rattle.invoke_engine.specs.Frame.{Ending, instruction}
use Rattle.invoke_engine.proofs.Fuel.{either}
use Rattle.tx_exec.specs.Payer.{charged, dropped, total_fee}
use Rattle.tx_exec.specs.declared.executing.Executed.{Executed}
use Rattle.tx_exec.specs.declared.failure.Failure.{Failure}
use Rattle.tx_exec.specs.Executing.{InBlock, call_of, executed, fixed_for, following, locks, performed}
use Rattle.tx_exec.specs.Transaction.{Transacted, by_drop, data_in, finished, finishing, rent_broken, transaction, written}
use Rattle.tx_exec.proofs.Fitting.{charged_fits, fits_given}
use Rattle.tx_exec.proofs.Keeping.{IsThere, all_there, metas_there}
use Rattle.width_laws.proofs.Frames.{EndsOwned, instruction_well}
use Rattle.width_laws.proofs.Keyed.{IsKeyed}
use Rattle.width_laws.proofs.Owned.{AreOwned, empty_owned}

-- ---- its instructions
abbrev GoodOwned : {E : Type 0} → Result (List Account) E → Type 0
GoodOwned result = MatchResult result AreOwned (λ _. Unit {0})

follow_owned : (n index : ℕ) (on : List Account → ℕ → ℕ → Log → Executed) (result : Result (List Account) InstructionError) (e : Ending)
    → MatchResult result (λ accounts. AreAccountsOf n accounts) (λ _. Unit {0}) → MatchResult result AreOwned (λ _. Unit {0})
    → ((after : List Account) (units trace : ℕ) (log : Log) → AreAccountsOf n after → AreOwned after → GoodOwned (on after units trace log).result)
    → GoodOwned (following index on result e).result
follow_owned n index on (Ok after) e given owned all = all after e.units e.carried.trace e.carried.log given owned
follow_owned n index on (Err error) e given owned all = tt

module _ (block : InBlock) (t : Chosen) (keyed : IsKeyed t) where
  abbrev n : ℕ
  n = length (all_keys t.tx.message t.loaded)

  executed_owned : (index : ℕ) (is : List Instruction) (accounts : List Account) (units trace : ℕ) (log : Log) → All (IsThere t) is → AreAccountsOf n accounts → AreOwned accounts
      → GoodOwned (executed (fixed_for block t) t index is accounts units trace log).result
  unfolding executed
  executed_owned index [] accounts units trace log there given owned = owned
  executed_owned index (i ∷ is) accounts units trace log there given owned =
      let e : Ending = instruction (fixed_for block t) (call_of t i) accounts units trace log in
      let well : EndingFits n e × EndsOwned e = instruction_well (fixed_for block t) (All-from_recursion IsKey (all_keys t.tx.message t.loaded) keyed) (call_of t i) accounts units trace log
      (metas_there t n i.accounts (All-head (IsThere t) i is there)) given owned in
      follow_owned n index (executed (fixed_for block t) t (index + 1) is) e.result e well.0 well.1
      (λ after u s l g o. executed_owned (index + 1) is after u s l (All-tail (IsThere t) i is there) g o)

-- ---- the whole
charged_owned : (values : List Account) (fee : ℕ) → AreOwned values → AreOwned (charged values fee)
charged_owned [] fee owned = owned
charged_owned (payer ∷ others) fee owned = owned

finished_owned : (t : Chosen) (base : List Account) (units : ℕ) (lines : List (List ℕ)) (result : Result (List Account) Failure) → AreOwned base → GoodOwned result
    → AreOwned (finished t base units lines result).values
finished_owned t base units lines (Err failure) owned left = owned
finished_owned t base units lines (Ok after) owned left = by_rent (rent_broken (locks t) base after)
  where
    by_rent : (o : Option ℕ) → AreOwned (finishing t base units lines after o).values
    by_rent (Some place) = owned
    by_rent None = left

abbrev ValuesOwned : Transacted → Type 0
ValuesOwned x = AreOwned x.values

transaction_owned : (block : InBlock) (t : Chosen) (values : List Account) → IsChosen t → IsKeyed t → Fits t.locks values → AreOwned values → AreOwned (transaction block t values).values
unfolding transaction
transaction_owned block t values is keyed fits owned = by_cause (dropped values (total_fee t))
  where
    by_cause : (o : Option DropCause) → AreOwned (by_drop (fixed_for block t) t values o).values
    by_cause (Some cause) = owned
    by_cause None =
        let base : List Account = charged values (total_fee t) in
        let e : Executed = performed (fixed_for block t) t base in
        let left : AreOwned base = charged_owned values (total_fee t) owned in
        either ValuesOwned (nat_lt t.budget.loaded (data_in base)) _ _ left
        (finished_owned t base (t.budget.limit - e.units) e.log.lines e.result left
        (executed_owned block t keyed 0 t.tx.message.instructions base t.budget.limit 0 no_lines (all_there t is)
        (fits_given t base is (charged_fits t.locks values (total_fee t) fits)) left))

-- ---- what is written
lent_owned : (ls : List Lock) (values : List Account) → AreOwned values → AreOwned (lent_for_writing ls values)
lent_owned [] values owned = tt
lent_owned (lock ∷ ls) [] owned = tt
lent_owned (lock ∷ ls) (value ∷ values) owned = by_write lock.write (lent_owned ls values owned.1)
  where
    by_write : (b : Bool) → AreOwned (lent_for_writing ls values) → AreOwned (cond b (value ∷ lent_for_writing ls values) (lent_for_writing ls values))
    by_write true rest = (owned.0, rest)
    by_write false rest = rest

settled_owned : (values : List Account) → AreOwned values → AreOwned (map settled values)
settled_owned [] owned = tt
settled_owned (value ∷ values) owned = (by_lamports (value.lamports == 0), settled_owned values owned.1)
  where
    by_lamports : (b : Bool) → IsKey (cond b empty_account value).owner
    by_lamports true = empty_owned
    by_lamports false = owned.0

pub written_owned : (block : InBlock) (t : Chosen) (values : List Account) → IsChosen t → IsKeyed t → Fits t.locks values → AreOwned values → AreOwned (written t (transaction block t values).values)
written_owned block t values is keyed fits owned =
    let x : Transacted = transaction block t values in
    settled_owned (lent_for_writing (locks t) x.values) (lent_owned (locks t) x.values (transaction_owned block t values is keyed fits owned))

-- The outcome of a transaction is small.
use Rattle.std.proofs.Common.{◌≤◌, ◌<◌, ◌+◌, ◌-◌, ◌^◌, ℕ, List, [], length, sum_by, Option, Some, None, Result, Ok, Err, All, sym, subst, lit≤, arith, min}
use Rattle.std.specs.Prelude.{nat_lt}
use Rattle.std.proofs.lemmas.Bool.{cond_both}
use Rattle.std.proofs.lemmas.List.Elements.{All-nil, All-from_recursion}
use Rattle.sol_base.specs.declared.account.Account.{Account}
use Rattle.sol_base.specs.Limits.{max_transaction_keys}
use Rattle.message_codec.specs.declared.message.Message.{Message}
use Rattle.fee_rules.specs.Charge.{Charge}
use Rattle.fee_rules.specs.declared.budget.Budget.{Budget}
use Rattle.fee_rules.specs.Fees.{base_fee, fee_of}
use Rattle.tx_report.specs.LogLines.{IsSmall, Log, max_lines_bytes, no_lines}
use Rattle.tx_report.proofs.LogLaws.{IsSmall-no_lines}
use Rattle.tx_report.proofs.GrownLogs.{HasGrown-small}
use Rattle.tx_report.specs.declared.cause.DropCause.{DropCause}
use Rattle.tx_report.specs.declared.status.Status.{Status}
use Rattle.tx_report.specs.declared.status.Status.TheVariants.{Dropped}
use Rattle.admission.specs.declared.chosen.Chosen.{Chosen}
use Rattle.admission.specs.Chosen.{IsChosen}
use Rattle.tx_exec.specs.Payer.{charged, dropped, total_fee}
use Rattle.tx_exec.specs.Executing.{Executed, Failure, InBlock, fixed_for, locks, performed}
use Rattle.tx_exec.specs.Transaction.{Transacted, by_drop, came_to, data_in, finished, finishing, no_fee, rent_broken, transaction}
use Rattle.tx_report.specs.Outcomes.{IsSmallOutcome}
use Rattle.tx_exec.proofs.GrownLogs.{performed_grows}

-- ---- the fee
min_below : (a b : ℕ) → min a b ≤ b
min_below a b = grind arith

fee_below : (message : Message) (budget : Budget) → message.header.required ≤ max_transaction_keys → (fee_of message budget).base + (fee_of message budget).priority < 2 ^ 64
unfolding fee_of
fee_below message budget few =
    let cut : (fee_of message budget).priority ≤ 2 ^ 64 - 1 - base_fee message = min_below _ _ in
    omega (arith, cut, few)

fee_small : (t : Chosen) → IsChosen t → t.fee.base + t.fee.priority < 2 ^ 64
fee_small t is =
    let groups = is.sane.groups in
    let keys = is.sane.keys in
    subst (λ (c : Charge). c.base + c.priority < 2 ^ 64) (sym is.charged) (fee_below t.tx.message t.budget (omega (arith, groups, keys)))

-- ---- the outcome
record AreSmall (lines : List (List ℕ)) : Type 0 where
  pub bytes : sum_by length lines ≤ max_lines_bytes
  pub filled : All (λ line. 1 ≤ length line) lines

none_small : AreSmall []
none_small = record { bytes = lit≤ tt; filled = All-nil (λ (line : List ℕ). 1 ≤ length line) }

lines_small : (log : Log) → IsSmall log → AreSmall log.lines
lines_small log is = record { bytes = is.whole; filled = All-from_recursion (λ (line : List ℕ). 1 ≤ length line) log.lines is.filled }

came_small : (t : Chosen) → IsChosen t
    → (status : Status) (units : ℕ) (lines : List (List ℕ)) (values : List Account) → AreSmall lines
    → IsSmallOutcome (came_to status units t.fee lines values).outcome
came_small t is status units lines values small = record { fee = fee_small t is; bytes = small.bytes; filled = small.filled }

finished_small : (t : Chosen) → IsChosen t
    → (base : List Account) (units : ℕ) (lines : List (List ℕ)) (result : Result (List Account) Failure)
    → AreSmall lines → IsSmallOutcome (finished t base units lines result).outcome
finished_small t is base units lines (Err f) small = came_small t is _ units lines base small
finished_small t is base units lines (Ok after) small = by_rent (rent_broken (locks t) base after)
  where
    by_rent : (o : Option ℕ) → IsSmallOutcome (finishing t base units lines after o).outcome
    by_rent (Some i) = came_small t is _ units lines base small
    by_rent None = came_small t is _ units lines after small

dropped_small : (cause : DropCause) (values : List Account) → IsSmallOutcome (came_to (Dropped cause) 0 no_fee [] values).outcome
dropped_small cause values = record { fee = lit≤ tt; bytes = none_small.bytes; filled = none_small.filled }

pub transaction_small : (block : InBlock) (t : Chosen) (values : List Account) → IsChosen t → IsSmallOutcome (transaction block t values).outcome
unfolding transaction
transaction_small block t values is = by_cause (dropped values (total_fee t))
  where
    by_cause : (o : Option DropCause) → IsSmallOutcome (by_drop (fixed_for block t) t values o).outcome
    by_cause (Some cause) = dropped_small cause values
    by_cause None =
        let base : List Account = charged values (total_fee t) in
        let e : Executed = performed (fixed_for block t) t base in
        cond_both (nat_lt t.budget.loaded (data_in base)) _ _ (λ (x : Transacted). IsSmallOutcome x.outcome) (λ _. came_small t is _ 0 [] base none_small)
        (λ _. finished_small t is base _ _ e.result (lines_small e.log (HasGrown-small no_lines e.log (performed_grows (fixed_for block t) t base) IsSmall-no_lines)))

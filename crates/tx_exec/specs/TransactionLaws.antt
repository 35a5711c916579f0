-- What a transaction keeps, and what of it a work promises.
use Rattle.std.specs.Prelude.{◌≡◌, ◌≤◌, ◌+◌, ℕ, true, false, List, length, filter, slice_get, Some}
use Rattle.sol_base.specs.declared.account.Account.{Account}
use Rattle.sol_base.specs.Accounts.{AreShort, lamports_in}
use Rattle.tx_report.specs.declared.cause.Cause.{Cause}
use Rattle.tx_report.specs.declared.cause.DropCause.{DropCause}
use Rattle.tx_report.specs.declared.outcome.Outcome.{Outcome}
use Rattle.tx_report.specs.declared.status.Status.TheVariants.{Dropped, Failed}
use Rattle.tx_report.specs.LogLines.{AreLogged}
use Rattle.tx_report.specs.Statuses.{IsStatus}
use Rattle.bank_law.specs.Lawful.{AreSettled, lent_for_writing}
use Rattle.admission.specs.declared.chosen.Chosen.{Chosen}
use Rattle.tx_exec.specs.Executing.{Executed, locks, lets_write}
use Rattle.tx_exec.specs.Payer.{charged, total_fee}
use Rattle.tx_exec.specs.Transaction.{Transacted, ran, written}

-- The values after a transaction: as many as before; with the fees paid they have the lamports of
-- before; what the message does not let it write is as it was; the executable accounts are those of
-- before; none is too long; where it failed, the fee was taken and nothing else changed; and where
-- it was dropped, nothing did.
pub record Keeps (t : Chosen) (values : List Account) (x : Transacted) : Type 0 where
  pub count : length x.values ≡ length values
  pub lamports : lamports_in x.values + x.outcome.base_paid + x.outcome.priority_paid
      ≡ lamports_in values
  pub read : (place : ℕ) → lets_write t place ≡ false
      → slice_get x.values place ≡ slice_get values place
  pub programs : (place : ℕ) (account : Account) → slice_get values place ≡ Some account
      → account.executable ≡ true →
      slice_get x.values place ≡ Some account
  pub no_new : (place : ℕ) (account : Account) → slice_get x.values place ≡ Some account
      → account.executable ≡ true →
      slice_get values place ≡ Some account
  pub short : AreShort values → AreShort x.values
  pub failed : (index : ℕ) (cause : Cause) (detail : ℕ)
      → x.outcome.status ≡ Failed index cause detail → x.values ≡ charged values (total_fee t)
  pub dropped : (cause : DropCause) → x.outcome.status ≡ Dropped cause → x.values ≡ values

-- what is written: one account for each write lock, which with the fees paid have the lamports that
-- were lent for writing, none too long, and each without lamports the empty one
pub record WritesFit (t : Chosen) (values : List Account) (x : Transacted) : Type 0 where
  pub one_each : length (written t x.values) ≡ length (filter (λ lock. lock.write) (locks t))
  pub lamports : lamports_in (written t x.values) + x.outcome.base_paid + x.outcome.priority_paid
      ≡ lamports_in (lent_for_writing (locks t) values)
  pub short : AreShort values → AreShort (written t x.values)
  pub settled : AreSettled (written t x.values)

-- an outcome has a status whose index and detail fit their fields, no more units than the budget,
-- and lines that are a log of texts
pub record IsOutcomeOf (t : Chosen) (outcome : Outcome) : Type 0 where
  pub status : IsStatus outcome.status
  pub units : outcome.units ≤ t.budget.limit
  pub lines : AreLogged outcome.lines

-- the units that instructions used and those that they left are the budget
abbrev pub UnitsAddUp : Chosen → List Account → Executed → Type 0
UnitsAddUp t base e = (ran t base e).outcome.units + e.units ≡ t.budget.limit

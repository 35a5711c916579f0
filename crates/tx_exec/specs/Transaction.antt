-- One transaction (Solana; that its data may grow without a cap, the causes of failures and what is
-- dropped are the project's own): a function of what is fixed for the block, and of the values of
-- its keys.
use Rattle.std.specs.Prelude.{ℕ, ◌-◌, ◌&&◌, Bool, List, [], length, map, sum_by, nat_lt, position, Option, Some, None, Result, Ok, Err, if◌then◌else◌}
use Rattle.std.specs.List.{zip}
use Rattle.sol_base.specs.declared.account.Account.{Account}
use Rattle.sol_base.specs.declared.lock.Lock.{Lock}
use Rattle.account_store.specs.State.{settled}
use Rattle.fee_rules.specs.Charge.{Charge}
use Rattle.tx_report.specs.declared.cause.Cause.TheVariants.{RentState, LoadedDataTooLarge}
use Rattle.tx_report.specs.declared.cause.DropCause.{DropCause}
use Rattle.tx_report.specs.declared.outcome.Outcome.{Outcome}
use Rattle.tx_report.specs.declared.status.Status.{Status}
use Rattle.tx_report.specs.declared.status.Status.TheVariants.{Good, Failed, Dropped}
use Rattle.tx_report.specs.Statuses.{whole_transaction}
use Rattle.bank_law.specs.Job.{JobEffects}
use Rattle.bank_law.specs.Lawful.{lent_for_writing}
use Rattle.admission.specs.declared.chosen.Chosen.{Chosen}
use Rattle.invoke_engine.specs.Frame.{Fixed}
use Rattle.tx_exec.specs.Payer.{breaks_rent, charged, dropped, total_fee}
use Rattle.tx_exec.specs.Executing.{Executed, Failure, InBlock, fixed_for, locks, performed}

-- the data bytes of all values, without an overhead for an account (the project's own)
abbrev pub data_in : List Account → ℕ
data_in values = sum_by (λ account. length account.bytes) values

-- the place of the first writable key whose rent does not allow what became of it
abbrev pub is_broken : Lock × (Account × Account) → Bool
is_broken (lock, (before, after)) = lock.write && breaks_rent before after

abbrev pub rent_broken : List Lock → List Account → List Account → Option ℕ
rent_broken ls before after = position is_broken (zip ls (zip before after))

-- what a transaction came to: its outcome, and the values of all its keys
pub record Transacted : Type 0 where
  pub outcome : Outcome
  pub values : List Account

abbrev pub came_to : Status → ℕ → Charge → List (List ℕ) → List Account → Transacted
came_to status units paid lines values = record {
  outcome = record {
    status = status;
    units = units;
    base_paid = paid.base;
    priority_paid = paid.priority;
    lines = lines;
  };
  values = values;
}

abbrev pub no_fee : Charge
no_fee = record { base = 0; priority = 0 }

-- it failed: the fee is paid, and nothing else changed
abbrev pub failing : Chosen → List Account → Failure → ℕ → List (List ℕ) → Transacted
failing t base f units lines = came_to (Failed f.index f.cause f.detail) units t.fee lines base

-- it ended well, unless the rent of a key is broken
abbrev pub finishing : Chosen → List Account → ℕ → List (List ℕ) → List Account → Option ℕ
    → Transacted
finishing t base units lines after None = came_to Good units t.fee lines after
finishing t base units lines after (Some place) =
    failing t base (record { index = whole_transaction; cause = RentState; detail = place }) units lines

abbrev pub finished : Chosen → List Account → ℕ → List (List ℕ) → Result (List Account) Failure
    → Transacted
finished t base units lines (Ok after) =
    finishing t base units lines after (rent_broken (locks t) base after)
finished t base units lines (Err f) = failing t base f units lines

-- what its instructions came to
abbrev pub ran : Chosen → List Account → Executed → Transacted
ran t base e = finished t base (t.budget.limit - e.units) e.log.lines e.result

-- a transaction that has paid runs, unless its accounts have too many data bytes
abbrev pub paid : Fixed → Chosen → List Account → Transacted
paid s t base =
    if nat_lt t.budget.loaded (data_in base)
    then failing t base (record { index = whole_transaction; cause = LoadedDataTooLarge; detail = 0 }) 0 []
    else ran t base (performed s t base)

abbrev pub by_drop : Fixed → Chosen → List Account → Option DropCause → Transacted
by_drop s t values (Some cause) = came_to (Dropped cause) 0 no_fee [] values
by_drop s t values None = paid s t (charged values (total_fee t))

-- the status, units, fees paid and lines of a transaction, and the new values of its keys
unfoldable pub transaction : InBlock → Chosen → List Account → Transacted
transaction block t values = by_drop (fixed_for block t) t values (dropped values (total_fee t))

-- what is written: the new values of the writable keys
abbrev pub written : Chosen → List Account → List Account
written t values = map settled (lent_for_writing (locks t) values)

-- what a transaction came to, as the effects of a work
abbrev pub effects_as : Chosen → Transacted → JobEffects
effects_as t x = record { outcome = x.outcome; written = written t x.values }

abbrev pub effects : InBlock → Chosen → List Account → JobEffects
effects block t values = effects_as t (transaction block t values)

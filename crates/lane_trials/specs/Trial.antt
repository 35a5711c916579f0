-- A small work for trials of a core (the project's own).
use Rattle.std.specs.Prelude.{ℕ, ◌-◌, nat_lt, ◌<◌, ◌∷◌, if◌then◌else◌, List, [], map, length, slice_index_or, All}
use Rattle.std.specs.List.{IsDistinct}
use Rattle.sol_base.specs.declared.account.Account.{Account}
use Rattle.sol_base.specs.declared.lock.Lock.{Lock}
use Rattle.sol_base.specs.Accounts.{empty_account}
use Rattle.tx_report.specs.declared.outcome.Outcome.{Outcome}
use Rattle.tx_report.specs.declared.status.Status.TheVariants.{Good}
use Rattle.bank_law.specs.Job.{Job, JobEffects, same_key, lock_keys}
use Rattle.bank_law.specs.Lawful.{lent_for_writing}

-- one lamport is taken, and an account without more is the empty one
abbrev pub spent : Account → Account
spent account =
    if nat_lt 1 account.lamports then record account { lamports = account.lamports - 1 }
    else empty_account

-- an outcome that tells a number
abbrev pub trial_outcome : ℕ → Outcome
trial_outcome units =
    record { status = Good; units = units; base_paid = 0; priority_paid = 0; lines = [] }

-- the lamports of the first account
abbrev pub first_lamports : List Account → ℕ
first_lamports [] = 0
first_lamports (v ∷ vs) = v.lamports

-- one lamport is taken from each account that is written, and the outcome tells those of the first
abbrev pub trial_effects : List Lock → List Account → JobEffects
trial_effects locks vs = record {
  outcome = trial_outcome (first_lamports vs);
  written = map spent (lent_for_writing locks vs);
}

abbrev pub trial_job : List (List Lock) → Job
trial_job lists = record {
  count = length lists;
  locks = λ i. slice_index_or lists i [];
  effects = λ i vs. trial_effects (slice_index_or lists i []) vs;
}

-- the keys of each position's locks are distinct
abbrev pub AreDistinctLists : List (List Lock) → Type 0
AreDistinctLists lists = All (λ locks. IsDistinct same_key (lock_keys locks)) lists

-- few positions, of few locks each
pub record IsSmall (lists : List (List Lock)) : Type 0 where
  pub few : length lists < 100
  pub short : All (λ locks. length locks < 100) lists

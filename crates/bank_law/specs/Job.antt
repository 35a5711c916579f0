-- A work of many positions, as plain data.
use Rattle.std.specs.Prelude.{ℕ, Bool, List, [], ◌∷◌, if◌then◌else◌}
use Rattle.sol_base.specs.declared.key.Key.{Key}
use Rattle.sol_base.specs.declared.account.Account.{Account}
use Rattle.sol_base.specs.declared.lock.Lock.{Lock}
use Rattle.sol_base.specs.Accounts.{empty_account}
pub use Rattle.sol_base.specs.Keys.{has_key, same_key}
pub use Rattle.sol_base.specs.Locks.{lock_keys, written_keys}
use Rattle.tx_report.specs.declared.outcome.Outcome.{Outcome}

-- what performing a position gives: its outcome, and one account for each write lock, in their
-- order
pub record JobEffects : Type 0 where
  pub outcome : Outcome
  pub written : List Account

-- the number of positions, the locks of each, and what performing one on the values of its keys
-- gives
pub record Job : Type 0 where
  pub count : ℕ
  pub locks : ℕ → List Lock
  pub effects : ℕ → List Account → JobEffects

-- the keys that position i declares, and those that it writes
abbrev pub keys : Job → ℕ → List Key
keys job i = lock_keys (job.locks i)

abbrev pub write_keys : Job → ℕ → List Key
write_keys job i = written_keys (job.locks i)

abbrev pub declares : Job → ℕ → Key → Bool
declares job i key = has_key key (keys job i)

abbrev pub writes : Job → ℕ → Key → Bool
writes job i key = has_key key (write_keys job i)

-- the value that stands beside the key, where values stand beside keys
abbrev pub beside : Key → List Key → List Account → Account
beside key [] vs = empty_account
beside key (k ∷ ks) [] = empty_account
beside key (k ∷ ks) (v ∷ vs) = if same_key key k then v else beside key ks vs

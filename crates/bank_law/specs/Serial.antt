-- The serial run: the positions one after the other, in their order.
-- The accounts are a function of the key, which has the empty account for an absent one.
use Rattle.std.specs.Prelude.{ℕ, zero, suc, map, if◌then◌else◌}
use Rattle.sol_base.specs.declared.key.Key.{Key}
use Rattle.sol_base.specs.declared.account.Account.{Account}
use Rattle.tx_report.specs.declared.outcome.Outcome.{Outcome}
use Rattle.bank_law.specs.Job.{Job, JobEffects, keys, write_keys, writes, beside}

-- what position i gives where the accounts are these
abbrev pub performed : Job → (Key → Account) → ℕ → JobEffects
performed job accounts i = job.effects i (map accounts (keys job i))

-- the accounts once it ran
abbrev pub next : Job → (Key → Account) → ℕ → Key → Account
next job accounts i key =
    if writes job i key then beside key (write_keys job i) (performed job accounts i).written
    else accounts key

-- the accounts once the first positions ran, as many as the number says
abbrev pub serial : Job → (Key → Account) → ℕ → Key → Account
serial job start zero key = start key
serial job start (suc i) key = next job (serial job start i) i key

-- the outcome of position i in that run
abbrev pub result : Job → (Key → Account) → ℕ → Outcome
result job start i = (performed job (serial job start i) i).outcome

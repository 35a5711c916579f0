-- A state of the core machine agrees with the serial run.
use Rattle.std.specs.Prelude.{◌≡◌, ℕ, zero, suc, ◌<◌, Bool, true, false, not, ◌&&◌, if◌then◌else◌, map, MatchOption}
use Rattle.sol_base.specs.declared.key.Key.{Key}
use Rattle.sol_base.specs.declared.account.Account.{Account}
use Rattle.bank_law.specs.Job.{Job, keys, writes, beside}
use Rattle.bank_law.specs.Serial.{serial, result}
use Rattle.bank_law.specs.Machine.{Stage, waiting, held, done, State, is_waiting, is_held_by, is_done, loan, conflict}

-- the least number below n that passes, or n
abbrev pub least : (ℕ → Bool) → ℕ → ℕ
least test zero = 0
least test (suc n) = if test 0 then 0 else suc (least (λ i. test (suc i)) n)

-- position j writes the key and is not done
abbrev pub will_write : Job → State → Key → ℕ → Bool
will_write job s key j = writes job j key && not (is_done (s.stage j))

-- the least position not done that writes the key, or the number of positions
abbrev pub first : Job → State → Key → ℕ
first job s key = least (will_write job s key) job.count

-- the account of the key when the serial run comes to that position
abbrev pub due : Job → (Key → Account) → State → Key → Account
due job start s key = serial job start (first job s key) key

-- the key is away, lent for writing with this account to a held position
pub record IsLent (job : Job) (s : State) (key : Key) (account : Account) : Type 0 where
  pub position : ℕ
  pub lane : ℕ
  pub holds : is_held_by lane (s.stage position) ≡ true
  pub written : writes job position key ≡ true
  pub value : beside key (keys job position) (loan (s.stage position)) ≡ account

-- The loan of a held position has the account of each declared key when the serial run comes to it,
-- and the outcome of a done one is that of the serial run.
abbrev pub Agrees : Job → (Key → Account) → ℕ → Stage → Type 0
Agrees job start i waiting = Unit {0}
Agrees job start i (held lane vs) = vs ≡ map (serial job start i) (keys job i)
Agrees job start i (done outcome) = outcome ≡ result job start i

pub record Sound (job : Job) (start : Key → Account) (s : State) : Type 0 where
  -- only positions of the work are ever held or done
  pub within : (i : ℕ) → is_waiting (s.stage i) ≡ false → i < job.count
  -- (a) if i is held or done, each earlier conflicting position is done
  pub earlier : (i j : ℕ) → is_waiting (s.stage i) ≡ false → j < i → conflict job j i ≡ true
      → is_done (s.stage j) ≡ true
  -- (b) the value of a key, in the store or in its write loan, is the account due
  pub values : (key : Key) →
      MatchOption (s.store key) (IsLent job s key (due job start s key))
      (λ v. v ≡ due job start s key)
  -- (c) of each held position, and (d) of each done one
  pub agrees : (i : ℕ) → Agrees job start i (s.stage i)

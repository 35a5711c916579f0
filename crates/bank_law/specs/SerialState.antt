-- The serial run as a finite map of the accounts that are there.
use Rattle.std.specs.Prelude.{ℕ, zero, suc, List, [], ◌∷◌}
use Rattle.sol_base.specs.declared.key.Key.{Key}
use Rattle.sol_base.specs.declared.account.Account.{Account}
use Rattle.account_store.specs.State.{State, at, put}
use Rattle.bank_law.specs.Job.{Job, write_keys}
use Rattle.bank_law.specs.Serial.{performed}

-- each key is put with the account that stands beside it
abbrev pub put_each : State → List Key → List Account → State
put_each s [] vs = s
put_each s (k ∷ ks) [] = s
put_each s (k ∷ ks) (v ∷ vs) = put_each (put s k v) ks vs

-- the state once position i ran
abbrev pub next_state : Job → State → ℕ → State
next_state job s i = put_each s (write_keys job i) (performed job (at s) i).written

-- the state once the first positions ran, as many as the number says
abbrev pub serial_state : Job → State → ℕ → State
serial_state job start zero = start
serial_state job start (suc i) = next_state job (serial_state job start i) i

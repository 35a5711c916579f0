-- What the serial run ends with.
use Rattle.std.specs.Prelude.{◌≡◌, List, map}
use Rattle.std.specs.List.{range_with_len}
use Rattle.sol_base.specs.declared.key.Key.{Key}
use Rattle.sol_base.specs.declared.account.Account.{Account}
use Rattle.tx_report.specs.declared.outcome.Outcome.{Outcome}
use Rattle.account_store.specs.State.{State, at}
use Rattle.bank_law.specs.Job.{Job}
use Rattle.bank_law.specs.Serial.{serial, result}
use Rattle.bank_law.specs.SerialState.{serial_state}
use Rattle.bank_core.specs.declared.origin.Origin.{Origin}

-- the outcome of each position, in their order
abbrev pub serial_outcomes : Job → (Key → Account) → List Outcome
serial_outcomes job start = map (result job start) (range_with_len 0 job.count)

-- what the serial run ends with, by the origin of a core
module _ {T : Type 0} (job : T → Job) (origin : Origin T) where
  -- each key has the account of the serial run
  abbrev pub HasSerialAccounts : State → Type 0
  HasSerialAccounts s =
      (key : Key) → at s key
      ≡ serial (job origin.told) (at origin.start) (job origin.told).count key

  -- the state that the serial run ends with
  abbrev pub state_at_end : State
  state_at_end = serial_state (job origin.told) origin.start (job origin.told).count

  -- the outcomes of the serial run
  abbrev pub outcomes_at_end : List Outcome
  outcomes_at_end = serial_outcomes (job origin.told) (at origin.start)

-- What every block keeps.
use Rattle.std.specs.Prelude.{◌≡◌, ℕ, suc, ◌+◌, ◌<◌, ◌≤◌, true, ◌↔◌, ◌⊎◌, List, length, All, Some}
use Rattle.sol_base.specs.declared.key.Key.{Key}
use Rattle.sol_base.specs.declared.account.Account.{Account}
use Rattle.tx_report.specs.declared.outcome.Outcome.{Outcome}
use Rattle.account_store.specs.State.{State, at, get, sum}
use Rattle.program_cache.specs.Ready.{ReadyImage}
use Rattle.program_cache.specs.Programs.{IsProgramOf, IsReady, sought_in}
use Rattle.snapshot_codec.specs.declared.snapshot.Snapshot.{Snapshot}
use Rattle.snapshot_codec.specs.Snapshot.{IsReadable}
use Rattle.admission.specs.declared.chosen.Chosen.{Chosen}
use Rattle.admission.specs.Chosen.{IsChosen}
use Rattle.bank_law.specs.Serial.{result}
use Rattle.bank_law.specs.SerialState.{serial_state}
use Rattle.tx_exec.specs.AdmittedBlock.{job_of}
use Rattle.block_end.specs.declared.block.Head.{Head}
use Rattle.block_run.specs.SerialRun.{told_in}
use Rattle.block_run.specs.Blocks.{closed}

-- the accounts once the first transactions of an order ran, and the outcome of one of them
abbrev pub state_after : Snapshot → ℕ → List Chosen → ℕ → State
state_after s slot order n = serial_state (job_of (told_in s slot order)) s.accounts n

abbrev pub outcome_of : Snapshot → ℕ → List Chosen → ℕ → Outcome
outcome_of s slot order i = result (job_of (told_in s slot order)) (at s.accounts) i

-- each transaction takes the fees that it pays out of the accounts, and nothing else
abbrev pub FeesLeaveTheAccounts : Type 0
FeesLeaveTheAccounts =
    (s : Snapshot) (slot : ℕ) (order : List Chosen) → IsReadable s → All IsChosen order →
    (i : ℕ) → i < length order →
    sum (state_after s slot order (suc i)) + (outcome_of s slot order i).base_paid
    + (outcome_of s slot order i).priority_paid
    ≡ sum (state_after s slot order i)

-- and what a block burns is all that it takes out
abbrev pub BurnedIsAllThatLeaves : Type 0
BurnedIsAllThatLeaves =
    (s : Snapshot) (head : Head) (wires : List (List ℕ)) (order : List Chosen) → IsReadable s
    → All IsChosen order →
    sum (closed s head wires order).after.accounts + (closed s head wires order).block.burned
    ≡ sum s.accounts

-- while transactions run, the executable accounts are those of the start, unchanged
abbrev pub ExecutableAccountsStay : Type 0
ExecutableAccountsStay =
    (s : Snapshot) (slot : ℕ) (order : List Chosen) → IsReadable s → All IsChosen order →
    (n : ℕ) → n ≤ length order → (key : Key) (account : Account) → account.executable ≡ true →
    (get (state_after s slot order n) key ≡ Some account) ↔ (get s.accounts key ≡ Some account)

-- the account under a key is a program that is ready
pub record IsReadyUnder (state : State) (key : Key) : Type 0 where
  pub image : ReadyImage
  pub program : IsProgramOf state key image
  pub found : sought_in state key ≡ IsReady image

-- an account that is executable at the end of a block was so at its start, or it is a program that
-- is ready
abbrev pub ActivatedProgramsAreReady : Type 0
ActivatedProgramsAreReady =
    (s : Snapshot) (head : Head) (wires : List (List ℕ)) (order : List Chosen) → IsReadable s
    → All IsChosen order →
    (key : Key) (account : Account)
    → get (closed s head wires order).after.accounts key ≡ Some account
    → account.executable ≡ true →
    (get s.accounts key ≡ Some account) ⊎ IsReadyUnder (closed s head wires order).after.accounts
    key

-- What the block of a batch keeps, and what it keeps when its entries run again.
use Rattle.std.specs.Prelude.{◌≡◌, ℕ, suc, ◌+◌, ◌<◌, ◌≤◌, true, ◌↔◌, ◌⊎◌, List, length, All, Some}
use Rattle.spec_base.specs.Bytes.{IsBytes}
use Rattle.sol_base.specs.declared.key.Key.{Key}
use Rattle.sol_base.specs.declared.account.Account.{Account}
use Rattle.account_store.specs.State.{State, get, sum}
use Rattle.snapshot_codec.specs.declared.batch.Batch.{Batch}
use Rattle.snapshot_codec.specs.declared.snapshot.Snapshot.{Snapshot}
use Rattle.snapshot_codec.specs.Snapshot.{IsReadable}
use Rattle.block_record.specs.declared.block.Block.{Block}
use Rattle.admission.specs.declared.chosen.Chosen.{Chosen}
use Rattle.admission.specs.Admission.{admitted, listed}
use Rattle.block_end.specs.declared.block.Closed.{Closed}
use Rattle.block_run.specs.Blocks.{before_refused, block_result, closed, listed_result, start_in, wires_of}
use Rattle.block_laws.specs.Laws.{IsReadyUnder, outcome_of, state_after}

-- the transactions of a batch that run
abbrev pub order_of : Snapshot → Batch → List Chosen
order_of s batch = (admitted (start_in s) batch.wires).order

-- the transactions of a block that run again
abbrev pub order_again : Snapshot → Block → List Chosen
order_again s given =
    let a = listed (start_in s) (wires_of given) in before_refused a.refused a.order

-- what they come to
abbrev pub closed_again : Snapshot → Block → Closed
closed_again s given =
    closed s (record { slot = given.slot; collector = given.collector }) (wires_of given)
    (order_again s given)

-- a block can be run: the snapshot is readable, and the wires are bytes, as their type says
abbrev pub CanRun : Snapshot → List (List ℕ) → Type 0
CanRun s wires = IsReadable s × All IsBytes wires

-- ---- lamports
-- a transaction takes the fees that it pays out of the accounts, and nothing else
abbrev pub TakesItsFees : Snapshot → ℕ → List Chosen → ℕ → Type 0
TakesItsFees s slot order i =
    sum (state_after s slot order (suc i)) + (outcome_of s slot order i).base_paid
    + (outcome_of s slot order i).priority_paid
    ≡ sum (state_after s slot order i)

abbrev pub TransactionsTakeTheirFees : Type 0
TransactionsTakeTheirFees = (s : Snapshot) (batch : Batch) → CanRun s batch.wires → (i : ℕ)
    → i < length (order_of s batch) → TakesItsFees s batch.slot (order_of s batch) i

-- what a block burns is all that leaves the accounts
abbrev pub BlocksKeepLamports : Type 0
BlocksKeepLamports = (s : Snapshot) (batch : Batch) → CanRun s batch.wires
    → sum (block_result s batch).after.accounts + (block_result s batch).block.burned
    ≡ sum s.accounts

abbrev pub ReplaysKeepLamports : Type 0
ReplaysKeepLamports = (s : Snapshot) (given : Block) → CanRun s (wires_of given)
    → sum (closed_again s given).after.accounts + (listed_result s given).block.burned
    ≡ sum s.accounts

-- ---- programs
-- while its transactions run, the executable accounts are those of the snapshot, unchanged
abbrev pub ProgramsStay : Type 0
ProgramsStay = (s : Snapshot) (batch : Batch) → CanRun s batch.wires → (n : ℕ)
    → n ≤ length (order_of s batch) → (key : Key) (account : Account) → account.executable ≡ true
    → (get (state_after s batch.slot (order_of s batch) n) key ≡ Some account)
    ↔ (get s.accounts key ≡ Some account)

-- and so when they run again
abbrev pub ProgramsStayAgain : Type 0
ProgramsStayAgain = (s : Snapshot) (given : Block) → CanRun s (wires_of given) → (n : ℕ)
    → n ≤ length (order_again s given) → (key : Key) (account : Account)
    → account.executable ≡ true
    → (get (state_after s given.slot (order_again s given) n) key ≡ Some account)
    ↔ (get s.accounts key ≡ Some account)

-- an account that is executable after it was so before, or it is a program that is ready
abbrev pub WasOrIsReady : State → State → Type 0
WasOrIsReady before after = (key : Key) (account : Account) → get after key ≡ Some account
    → account.executable ≡ true → (get before key ≡ Some account) ⊎ IsReadyUnder after key

abbrev pub NewProgramsAreReady : Type 0
NewProgramsAreReady = (s : Snapshot) (batch : Batch) → CanRun s batch.wires
    → WasOrIsReady s.accounts (block_result s batch).after.accounts

abbrev pub NewProgramsAreReadyAgain : Type 0
NewProgramsAreReadyAgain = (s : Snapshot) (given : Block) → CanRun s (wires_of given)
    → WasOrIsReady s.accounts (closed_again s given).after.accounts

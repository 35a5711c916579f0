-- An account whose owner does not run over it in a block.
use Rattle.std.specs.Prelude.{◌≡◌, ◌⊎◌, ℕ, ◌+◌, ◌≤◌, ◌&&◌, Bool, true, false, List, All, sum_by, if◌then◌else◌}
use Rattle.sol_base.specs.declared.key.Key.{Key}
use Rattle.sol_base.specs.declared.key.TheConstants.{LOADER_PROGRAM}
use Rattle.sol_base.specs.declared.account.Account.{Account}
use Rattle.sol_base.specs.Keys.{has_key, same_key}
use Rattle.account_store.specs.State.{at}
use Rattle.loader_prog.specs.Buffers.{is_final, rest_in}
use Rattle.snapshot_codec.specs.declared.batch.Batch.{Batch}
use Rattle.snapshot_codec.specs.declared.snapshot.Snapshot.{Snapshot}
use Rattle.block_run.specs.Blocks.{block_result}
use Rattle.block_laws.specs.Keeping.{CanRun}
use Rattle.ownership_laws.specs.Blocks.{steps_of}
use Rattle.ownership_laws.specs.Steps.{Step, Pays, Runs, Clears, Ends}

-- the step is no stretch of this owner's program over the account of the key
abbrev pub Rests : Key → Key → Step → Type 0
Rests key owner (Pays payer fee) = Unit {0}
Rests key owner (Runs keys x) = has_key key keys ≡ true → same_key owner x.program ≡ false
Rests key owner Clears = Unit {0}
Rests key owner (Ends collector collected) = Unit {0}

-- the fee that a key pays in a step, and all that it pays
abbrev pub fee_by : Key → Step → ℕ
fee_by key (Pays payer fee) = if same_key key payer then fee else 0
fee_by key (Runs keys x) = 0
fee_by key Clears = 0
fee_by key (Ends collector collected) = 0

abbrev pub fees_by : Key → List Step → ℕ
fees_by key steps = sum_by (fee_by key) steps

-- a buffer of the loader that is final
abbrev pub is_final_buffer : Account → Bool
is_final_buffer account = same_key account.owner LOADER_PROGRAM && is_final account.bytes

-- it keeps its owner, its data, of which a final buffer may keep the image alone, and its lamports
-- but for the fees
pub record IsKeptBut (fees : ℕ) (was left : Account) : Type 0 where
  pub owner : left.owner ≡ was.owner
  pub bytes : (left.bytes ≡ was.bytes)
      ⊎ ((is_final_buffer was ≡ true) × (left.bytes ≡ rest_in was.bytes))
  pub lamports : was.lamports ≤ left.lamports + fees

-- an account over which its owner does not run in a block keeps all but the fees that it pays
abbrev pub AccountsAtRestAreKept : Type 0
AccountsAtRestAreKept =
    (s : Snapshot) (batch : Batch) → CanRun s batch.wires → (key : Key)
    → All (Rests key (at s.accounts key).owner) (steps_of s batch)
    → IsKeptBut (fees_by key (steps_of s batch)) (at s.accounts key)
    (at (block_result s batch).after.accounts key)

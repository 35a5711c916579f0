-- Snapshots of the widths that their types say, through the blocks of batches.
use Rattle.std.specs.Prelude.{◌≡◌, ℕ, ◌≤◌, ◌<◌, ◌^◌, List, ◌++◌, length, Ok}
use Rattle.sol_base.specs.Keys.{IsKey}
use Rattle.sol_base.specs.Limits.{max_transactions}
use Rattle.account_store.specs.State.{len}
use Rattle.snapshot_codec.specs.declared.batch.Batch.{Batch}
use Rattle.snapshot_codec.specs.declared.snapshot.Snapshot.{Snapshot}
use Rattle.snapshot_codec.specs.Snapshot.{HasWidths, max_accounts, snapshot_bytes}
use Rattle.snapshot_codec.specs.SnapshotReading.{prefix_of}
use Rattle.block_run.specs.Blocks.{block_result}
use Rattle.block_laws.specs.Keeping.{CanRun}

-- a snapshot and a batch that can be run, of the widths that their types say; those that are read
-- from bytes are such
pub record AreWide (s : Snapshot) (batch : Batch) : Type 0 where
  pub can_run : CanRun s batch.wires
  pub snapshot : HasWidths s
  pub slot : batch.slot < 2 ^ 64
  pub collector : IsKey batch.collector

-- the snapshot after the block has those widths too
abbrev pub SnapshotsAfterBlocksHaveWidths : Type 0
SnapshotsAfterBlocksHaveWidths = (s : Snapshot) (batch : Batch) → AreWide s batch
    → HasWidths (block_result s batch).after

-- the bytes that spell a snapshot are read as it, whatever follows them
abbrev pub IsReadAsItself : Snapshot → Type 0
IsReadAsItself s = (rest : List ℕ) → prefix_of (snapshot_bytes s ++ rest)
    ≡ Ok (record { snapshot = s; length = length (snapshot_bytes s) })

-- so is the snapshot after the block, where it has no more accounts than a snapshot may
abbrev pub SnapshotsAfterBlocksAreRead : Type 0
SnapshotsAfterBlocksAreRead = (s : Snapshot) (batch : Batch) → AreWide s batch
    → length batch.wires ≤ max_transactions → len (block_result s batch).after.accounts ≤ max_accounts
    → IsReadAsItself (block_result s batch).after

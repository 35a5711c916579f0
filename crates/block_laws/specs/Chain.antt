-- What a block leaves, as the next block and the reader of its record find it.
use Rattle.std.specs.Prelude.{◌≡◌, ◌≤◌, ◌<◌, ◌^◌, All, Ok, length}
use Rattle.sol_base.specs.Keys.{IsHash, IsKey}
use Rattle.sol_base.specs.Limits.{max_transactions}
use Rattle.account_store.specs.State.{len}
use Rattle.snapshot_codec.specs.declared.batch.Batch.{Batch}
use Rattle.snapshot_codec.specs.declared.snapshot.Snapshot.{Snapshot}
use Rattle.snapshot_codec.specs.Snapshot.{IsReadable, max_accounts}
use Rattle.block_record.specs.declared.block.Block.{Block}
use Rattle.block_record.specs.Record.{HasTexts, HasWidths, bytes_of_record}
use Rattle.block_record.specs.RecordReading.{record_of}
use Rattle.block_run.specs.Blocks.{block_result}
use Rattle.block_laws.specs.Keeping.{CanRun}

-- the snapshot after the block of a batch is one that the next block can be run over, at the slot
-- of the batch
pub record IsNextSnapshot (batch : Batch) (after : Snapshot) : Type 0 where
  pub readable : IsReadable after
  pub slot : after.slot ≡ batch.slot

-- so it is where it has no more accounts than a snapshot may
abbrev pub NextBlocksCanBeRun : Type 0
NextBlocksCanBeRun = (s : Snapshot) (batch : Batch) → CanRun s batch.wires
    → length batch.wires ≤ max_transactions → len (block_result s batch).after.accounts ≤ max_accounts
    → IsNextSnapshot batch (block_result s batch).after

-- a readable snapshot and a batch, of the widths that their types say
pub record BatchFits (s : Snapshot) (batch : Batch) : Type 0 where
  pub can_run : CanRun s batch.wires
  pub few : length batch.wires ≤ max_transactions
  pub slot : batch.slot < 2 ^ 64
  pub collector : IsKey batch.collector
  pub hashes : All (λ mark. IsHash mark.hash) s.recent

-- the record of its block has texts and widths, and is read as that block
pub record IsRead (block : Block) : Type 0 where
  pub texts : HasTexts block
  pub widths : HasWidths block
  pub read : record_of (bytes_of_record block) ≡ Ok block

abbrev pub RecordsAreRead : Type 0
RecordsAreRead = (s : Snapshot) (batch : Batch) → BatchFits s batch
    → IsRead (block_result s batch).block

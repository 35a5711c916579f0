-- The order of the entries of a block.
use Rattle.std.specs.Prelude.{◌≡◌, AllPairs}
use Rattle.snapshot_codec.specs.declared.batch.Batch.{Batch}
use Rattle.snapshot_codec.specs.declared.snapshot.Snapshot.{Snapshot}
use Rattle.admission.specs.Lines.{StandsBefore}
use Rattle.block_run.specs.Blocks.{block_result, wires_of}
use Rattle.block_laws.specs.Again.{wires_in}
use Rattle.block_laws.specs.Keeping.{order_of}
use Rattle.block_laws.specs.Parts.{PositionsAreParted}

-- The entries have the wires of the transactions that run, in their order. Of two the earlier has
-- the higher priority, or the same and the earlier position. Each position of the batch has one
-- entry or is refused.
pub record EntriesAreInOrder (s : Snapshot) (batch : Batch) : Type 0 where
  pub wires : wires_of (block_result s batch).block ≡ wires_in batch.wires (order_of s batch)
  pub ranked : AllPairs StandsBefore (order_of s batch)
  pub parted : PositionsAreParted batch.wires
      (record { order = order_of s batch; refused = (block_result s batch).refused })

abbrev pub AllEntriesAreInOrder : Type 0
AllEntriesAreInOrder = (s : Snapshot) (batch : Batch) → EntriesAreInOrder s batch

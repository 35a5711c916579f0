-- What the calls that run a block answer.
use Rattle.std.specs.Prelude.{◌≡◌}
use Rattle.snapshot_codec.specs.Snapshot.{IsWritable}
use Rattle.block_record.specs.Record.{IsCounted, bytes_of_record}
use Rattle.block_run.specs.declared.block.BlockResult.{BlockResult}
use Rattle.block_run.specs.declared.block.Recorded.{Recorded}

-- exactly the block, the snapshot after it and the transactions that did not run that are wanted;
-- block and snapshot can be written
pub record IsBlockResult (wanted answer : BlockResult) : Type 0 where
  pub exact : answer ≡ wanted
  pub counted : IsCounted answer.block
  pub writable : IsWritable answer.after

-- the record of the block that is wanted in its place
pub record IsRecorded (wanted : BlockResult) (answer : Recorded) : Type 0 where
  pub record_is : answer.record ≡ bytes_of_record wanted.block
  pub after : answer.after ≡ wanted.after
  pub refused : answer.refused ≡ wanted.refused
  pub writable : IsWritable answer.after

-- What the calls that end a block answer.
use Rattle.std.specs.Prelude.{◌≡◌}
use Rattle.snapshot_codec.specs.Snapshot.{IsWritable}
use Rattle.block_record.specs.Record.{IsCounted, bytes_of_record}
use Rattle.block_end.specs.declared.block.Closed.{Closed}
use Rattle.block_end.specs.declared.block.ClosedRecord.{ClosedRecord}

-- exactly the block and the snapshot after it that are wanted, and both can be written
pub record IsClosed (wanted end : Closed) : Type 0 where
  pub exact : end ≡ wanted
  pub counted : IsCounted end.block
  pub writable : IsWritable end.after

-- the record of the block that is wanted, and the snapshot after it, which can be written
pub record IsClosedRecord (wanted : Closed) (end : ClosedRecord) : Type 0 where
  pub record_is : end.record ≡ bytes_of_record wanted.block
  pub after : end.after ≡ wanted.after
  pub writable : IsWritable end.after

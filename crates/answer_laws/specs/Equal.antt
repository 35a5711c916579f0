-- Snapshots that are equal as values, wherever each came from.
use Rattle.std.specs.Prelude.{◌≡◌}
use Rattle.sol_base.specs.declared.key.Key.{Key}
use Rattle.account_store.specs.State.{get}
use Rattle.snapshot_codec.specs.declared.batch.Batch.{Batch}
use Rattle.snapshot_codec.specs.declared.snapshot.Snapshot.{Snapshot}
use Rattle.snapshot_codec.specs.Snapshot.{snapshot_bytes}
use Rattle.block_record.specs.declared.block.Block.{Block}
use Rattle.block_record.specs.Record.{bytes_of_record}
use Rattle.block_run.specs.Blocks.{block_result, listed_result}

-- the same limits, the same newest blocks, and the same account under each key, or none
pub record AreEqual (one other : Snapshot) : Type 0 where
  pub limits : one.limits ≡ other.limits
  pub recent : one.recent ≡ other.recent
  pub accounts : (key : Key) → get one.accounts key ≡ get other.accounts key

-- a batch comes to the same block over both, with the same bytes of its record and of the snapshot
-- after it
pub record GiveTheSame (one other : Snapshot) (batch : Batch) : Type 0 where
  pub block : block_result one batch ≡ block_result other batch
  pub written : bytes_of_record (block_result one batch).block
      ≡ bytes_of_record (block_result other batch).block
  pub after : snapshot_bytes (block_result one batch).after
      ≡ snapshot_bytes (block_result other batch).after

abbrev pub EqualSnapshotsGiveTheSame : Type 0
EqualSnapshotsGiveTheSame = (one other : Snapshot) (batch : Batch) → AreEqual one other
    → GiveTheSame one other batch

-- and so do the entries of a record that run again
abbrev pub EqualSnapshotsReplayAlike : Type 0
EqualSnapshotsReplayAlike = (one other : Snapshot) (given : Block) → AreEqual one other
    → listed_result one given ≡ listed_result other given

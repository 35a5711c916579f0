-- A block whose entries run again over the snapshot that it was made from.
use Rattle.std.specs.Prelude.{◌≡◌, ◌<◌, false}
use Rattle.status_cache.specs.Recent.{newest_of}
use Rattle.snapshot_codec.specs.declared.batch.Batch.{Batch}
use Rattle.snapshot_codec.specs.declared.snapshot.Snapshot.{Snapshot}
use Rattle.block_run.specs.Blocks.{block_result, listed_result}
use Rattle.block_replay.specs.declared.verdict.Verdict.TheVariants.{Match}
use Rattle.block_replay.specs.Verdict.{verdict}

-- they are all admitted again, and come to the same block
abbrev pub BlocksRunAgain : Type 0
BlocksRunAgain = (s : Snapshot) (batch : Batch) → listed_result s (block_result s batch).block
    ≡ record { block = (block_result s batch).block; halted = false }

-- so the record of a batch after the snapshot's slot has no difference
abbrev pub ReplaysMatch : Type 0
ReplaysMatch = (s : Snapshot) (batch : Batch) → s.slot < batch.slot
    → verdict s.slot (newest_of s.recent) (block_result s batch).block
    (listed_result s (block_result s batch).block)
    ≡ Match

-- A record whose verdict is Match.
use Rattle.std.specs.Prelude.{◌≡◌, ◌<◌, ◌↔◌, false}
use Rattle.status_cache.specs.Recent.{newest_of}
use Rattle.snapshot_codec.specs.declared.snapshot.Snapshot.{Snapshot}
use Rattle.block_record.specs.declared.block.Block.{Block}
use Rattle.block_record.specs.Record.{HasWidths, IsCounted}
use Rattle.block_run.specs.Blocks.{listed_result, wires_of}
use Rattle.block_replay.specs.declared.verdict.Verdict.TheVariants.{Match}
use Rattle.block_replay.specs.Verdict.{verdict}
use Rattle.block_laws.specs.Keeping.{CanRun}

-- a snapshot and a record as they are read from bytes
pub record RecordFits (s : Snapshot) (given : Block) : Type 0 where
  pub can_run : CanRun s (wires_of given)
  pub counted : IsCounted given
  pub widths : HasWidths given

-- the record is of a later slot, and its entries come to the block itself, the statuses included
pub record IsItsBlock (s : Snapshot) (given : Block) : Type 0 where
  pub later : s.slot < given.slot
  pub same : listed_result s given ≡ record { block = given; halted = false }

-- its verdict is Match exactly where that is so
abbrev pub MatchingRecordsAreTheBlock : Type 0
MatchingRecordsAreTheBlock = (s : Snapshot) (given : Block) → RecordFits s given
    → (verdict s.slot (newest_of s.recent) given (listed_result s given) ≡ Match) ↔ IsItsBlock s given

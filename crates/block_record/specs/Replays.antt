-- A record, and the block that its entries give when they run again.
use Rattle.std.specs.Prelude.{◌≡◌, ◌<◌, length, MatchBool}
use Rattle.block_record.specs.declared.block.Block.{Block}
use Rattle.block_record.specs.declared.block.Listed.{Listed}

-- the replayed block ends before an entry that is not admitted, or has them all
abbrev pub IsReplayOf : Block → Listed → Type 0
IsReplayOf given listed =
    MatchBool listed.halted
    (length listed.block.entries < length given.entries)
    (length listed.block.entries ≡ length given.entries)

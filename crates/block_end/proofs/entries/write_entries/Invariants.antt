use Rattle.std.proofs.Common.{◌≡◌, ◌++◌, take}
use Rattle.std.specs.List.{flat_map}
use Rattle.block_record.specs.Record.{entry_bytes}
use Rattle.block_end.specs.Blocks.{entries_of}
use Rattle.block_end.proofs.entries.write_entries.Given as goal

-- the entries so far
abbrev pub invariant-loop-at : goal.invariant-loop-at
invariant-loop-at l = l.out ≡ l.fn.out ++ flat_map entry_bytes (entries_of l.wires (take l.at l.order) (take l.at l.outcomes))

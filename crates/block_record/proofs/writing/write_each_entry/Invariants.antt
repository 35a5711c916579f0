use Rattle.std.proofs.Common.{take}
use Rattle.std.specs.List.{flat_map}
use Rattle.format_fields.specs.Output.{Adds}
use Rattle.block_record.specs.Record.{entry_bytes}
use Rattle.block_record.proofs.writing.write_each_entry.Given as goal

-- the entries so far
abbrev pub invariant-loop-entry : goal.invariant-loop-entry
invariant-loop-entry g l = Adds g.O.Output.holds l.fn.out l.out (flat_map entry_bytes (take l.entry-index l.entries))

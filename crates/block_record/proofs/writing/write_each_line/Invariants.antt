use Rattle.std.proofs.Common.{take}
use Rattle.std.specs.List.{flat_map}
use Rattle.spec_base.specs.Bytes.{sized_bytes}
use Rattle.format_fields.specs.Output.{Adds}
use Rattle.block_record.proofs.writing.write_each_line.Given as goal

-- the lines so far
abbrev pub invariant-loop-line : goal.invariant-loop-line
invariant-loop-line g l = Adds g.O.Output.holds l.fn.out l.out (flat_map sized_bytes (take l.line-index l.lines))

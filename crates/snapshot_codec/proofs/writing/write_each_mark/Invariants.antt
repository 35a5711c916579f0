use Rattle.std.proofs.Common.{take}
use Rattle.std.specs.List.{flat_map}
use Rattle.snapshot_codec.specs.Snapshot.{mark_bytes}
use Rattle.format_fields.specs.Output.{Adds}
use Rattle.snapshot_codec.proofs.writing.write_each_mark.Given as goal

-- the marks so far
abbrev pub invariant-loop-mark : goal.invariant-loop-mark
invariant-loop-mark g l = Adds g.O.Output.holds l.fn.out l.out (flat_map mark_bytes (take l.mark-index l.marks))

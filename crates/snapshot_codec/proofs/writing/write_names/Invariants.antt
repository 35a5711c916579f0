use Rattle.std.proofs.Common.{take}
use Rattle.std.specs.List.{flat_map}
use Rattle.sol_base.specs.Keys.{hash_bytes}
use Rattle.format_fields.specs.Output.{Adds}
use Rattle.snapshot_codec.proofs.writing.write_names.Given as goal

-- the names so far
abbrev pub invariant-loop-name : goal.invariant-loop-name
invariant-loop-name g l = Adds g.O.Output.holds l.fn.out l.out (flat_map hash_bytes (take l.name-index l.names))

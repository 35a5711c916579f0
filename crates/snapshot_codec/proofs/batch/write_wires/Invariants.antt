use Rattle.std.proofs.Common.{◌≡◌, ◌++◌, take}
use Rattle.std.specs.List.{flat_map}
use Rattle.spec_base.specs.Bytes.{sized_bytes}
use Rattle.snapshot_codec.proofs.batch.write_wires.Given as goal

-- the transactions so far
abbrev pub invariant-loop-wire : goal.invariant-loop-wire
invariant-loop-wire l = l.out ≡ l.fn.out ++ flat_map sized_bytes (take l.wire-index l.wires)

use Rattle.std.proofs.Common.{take}
use Rattle.block_run.specs.SerialRun.{AreKeysOf, keys_in}
use Rattle.block_run.proofs.keys.keys_in.Given as goal

abbrev pub invariant-loop-one : goal.invariant-loop-one
invariant-loop-one l = AreKeysOf (keys_in (take l.one-index l.order)) l.collected.keys.items

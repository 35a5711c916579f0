use Rattle.std.proofs.Common.{◌++◌, List, take}
use Rattle.sol_base.specs.declared.key.Key.{Key}
use Rattle.block_run.specs.SerialRun.{AreKeysOf}
use Rattle.block_run.proofs.keys.Collected.add_all.Given as goal

abbrev pub invariant-loop-key : goal.invariant-loop-key
invariant-loop-key l = (all : List Key) → AreKeysOf all l.fn.self.keys.items → AreKeysOf (all ++ take l.key-index l.keys) l.self.keys.items

use Rattle.std.proofs.Common.{◌≡◌, take}
use Rattle.sol_base.specs.declared.key.Key.{Key}
use Rattle.block_shape.specs.Ends.{end_of, locks_as, raised}
use Rattle.block_shape.proofs.ends.raise.Given as goal

abbrev pub invariant-loop-lock : goal.invariant-loop-lock
invariant-loop-lock l = (key : Key) → end_of l.ends key ≡ raised (locks_as l.write (take l.lock-index l.locks) key) l.end (end_of l.fn.ends key)

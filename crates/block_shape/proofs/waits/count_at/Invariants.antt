use Rattle.std.proofs.Common.{◌≡◌, take}
use Rattle.sol_base.specs.declared.key.Key.{Key}
use Rattle.block_shape.specs.Waits.{wait_of, counted_if, is_held_at}
use Rattle.block_shape.proofs.waits.count_at.Given as goal

abbrev pub invariant-loop-lock : goal.invariant-loop-lock
invariant-loop-lock l = (key : Key) → wait_of l.waits key ≡ counted_if (is_held_at l.written l.read (take l.lock-index l.locks) key) l.place (wait_of l.fn.waits key)

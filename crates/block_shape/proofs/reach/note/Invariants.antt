use Rattle.std.proofs.Common.{◌≡◌, take}
use Rattle.sol_base.specs.declared.key.Key.{Key}
use Rattle.block_shape.specs.Ends.{locks_as}
use Rattle.block_shape.specs.Holders.{reach_of, reached}
use Rattle.block_shape.proofs.reach.note.Given as goal

abbrev pub invariant-loop-lock : goal.invariant-loop-lock
invariant-loop-lock l = (key : Key) → reach_of l.reaches key ≡ reached (locks_as l.write (take l.lock-index l.locks) key) l.end l.place (reach_of l.fn.reaches key)

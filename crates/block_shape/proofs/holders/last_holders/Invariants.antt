use Rattle.block_shape.proofs.HolderLaws.{Held}
use Rattle.block_shape.proofs.holders.last_holders.Given as goal

abbrev pub invariant-loop-position : goal.invariant-loop-position
invariant-loop-position l = Held l.measure l.order l.starts l.written l.read l.holders.items l.position

use Rattle.std.proofs.Common.{◌≡◌, take}
use Rattle.block_end.specs.Blocks.{processed_in}
use Rattle.block_end.proofs.names.processed_in.Given as goal

abbrev pub invariant-loop-at : goal.invariant-loop-at
invariant-loop-at l = l.names.items ≡ processed_in (take l.at l.order) (take l.at l.outcomes)

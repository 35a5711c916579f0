use Rattle.std.proofs.Common.{◌≡◌, take}
use Rattle.block_end.specs.BlockEnd.{base_fees, priority_fees}
use Rattle.block_end.proofs.fees.split_paid.Given as goal

abbrev pub invariant-loop-share : goal.invariant-loop-share
invariant-loop-share l = record {
  base : l.base ≡ base_fees (take l.share-index l.outcomes);
  priority : l.priority ≡ priority_fees (take l.share-index l.outcomes);
}

use Rattle.std.proofs.Common.{subst}
use Rattle.std.specs.List.Sorted.{IsStrictlySortedBy}
use Rattle.sol_base.specs.Keys.{hash_cmp}
use Rattle.admission.proofs.SiftLaws.{distinct_sorted}
use Rattle.admission.proofs.sift.are_distinct.Goals as goal

pub returns : goal.returns
returns c = λ t. distinct_sorted c.args.names.items c.sort_unstable.new.self.items c.sort_unstable.ensures.permutation (subst (IsStrictlySortedBy hash_cmp) c.deref.ensures.value (c.ascend.ensures t))

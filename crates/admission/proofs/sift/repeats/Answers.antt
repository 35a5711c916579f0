use Rattle.std.proofs.Common.{subst, ◌∙◌}
use Rattle.std.specs.List.{IsDistinct}
use Rattle.sol_base.specs.Keys.{same_hash}
use Rattle.admission.proofs.SiftLaws.{none_repeated}
use Rattle.admission.proofs.sift.repeats.Goals as goal

pub returns-then-are_distinct : goal.returns-then-are_distinct
returns-then-are_distinct c =
    c.in_ok-vec.ensures.items_if_clones_equal (λ y same. same)
    ∙ none_repeated c.args.batch.now (subst (IsDistinct same_hash) c.in_ok-names_in.ensures (c.are_distinct.ensures c.if-are_distinct.true))

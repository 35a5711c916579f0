use Rattle.fee_rules.proofs.Progress.{IsSoFar}
use Rattle.fee_rules.proofs.budget.budget_of.Given as goal

abbrev pub invariant-loop-index : goal.invariant-loop-index
invariant-loop-index l = IsSoFar l.keys l.instruction-items l.index l.asked l.others

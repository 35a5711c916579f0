use Rattle.std.specs.Prelude.{codes}
use Rattle.text_short.specs.BudgetCalls.{budget_named}
use Rattle.text_short.proofs.MemberNames.{differs}
use Rattle.text_short.proofs.budget.budget_named.Goals as goal

pub returns-in_default : goal.returns-in_default
unfolding budget_named
returns-in_default c = rw (
  differs (codes "SetComputeUnitLimit") c.args.name.now
      c.in_default.not-SetComputeUnitLimit,
  differs (codes "SetComputeUnitPrice") c.args.name.now
      c.in_default.not-SetComputeUnitPrice,
) c.size_named.ensures

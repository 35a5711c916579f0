use Rattle.std.specs.Prelude.{codes}
use Rattle.text_short.specs.BudgetCalls.{size_named}
use Rattle.text_short.proofs.MemberNames.{differs}
use Rattle.text_short.proofs.budget.size_named.Goals as goal

pub returns-in_default : goal.returns-in_default
unfolding size_named
returns-in_default c = rw (
  differs (codes "RequestHeapFrame") c.args.name.now c.in_default.not-RequestHeapFrame,
  differs (codes "SetLoadedAccountsDataSizeLimit") c.args.name.now
      c.in_default.not-SetLoadedAccountsDataSizeLimit,
) c.no_such_instruction.ensures

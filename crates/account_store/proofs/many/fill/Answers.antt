use Rattle.std.proofs.Common.{arith, ◌∙◌}
use Rattle.account_store.proofs.Walks.{filled_more}
use Rattle.account_store.proofs.many.fill.Goals as goal

pub loop-accounts-preserved : goal.loop-accounts-preserved
loop-accounts-preserved c = filled_more c.loop-accounts.accounts.items c.push.new.self.items c.args.len (omega arith) c.in_ok-push.ensures.items ∙ c.loop-accounts.invariant

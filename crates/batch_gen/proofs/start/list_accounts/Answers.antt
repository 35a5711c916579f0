use Rattle.batch_gen.proofs.Starting.{one_more_user}
use Rattle.batch_gen.proofs.start.list_accounts.Goals as goal

pub loop-i-preserved : goal.loop-i-preserved
loop-i-preserved c = one_more_user c.loop-i.i c.loop-i.accounts c.push.new.self c.user_key.result c.wallet_of.result c.user_key.ensures c.wallet_of.ensures c.loop-i.invariant c.in_ok-push.ensures.ok

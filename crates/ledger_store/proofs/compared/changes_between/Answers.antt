use Rattle.std.proofs.Common.{length, ap, arith}
use Rattle.ledger_store.proofs.Differences.{few_gone}
use Rattle.ledger_store.proofs.compared.changes_between.Goals as goal

pub returns-clause-few : goal.returns-clause-few
returns-clause-few c = omega (arith, ap length c.in_ok-gone.ensures, few_gone c.args.before.now.accounts c.args.after.now.accounts, c.requires.before.accounts)

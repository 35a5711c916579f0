use Rattle.std.proofs.Common.{refl, sym}
use Rattle.bank_core.proofs.Spends.{spent_right}
use Rattle.bank_core.proofs.kept.Core.commit.Goals as goal

pub commit_spent-requires-clause-right : goal.commit_spent-requires-clause-right
commit_spent-requires-clause-right g c = spent_right g.W.Work.job _ _ _ _ _ _ _ c.requires.origin refl (sym c.spend.ensures.0) c.args.loan.lent c.requires.right

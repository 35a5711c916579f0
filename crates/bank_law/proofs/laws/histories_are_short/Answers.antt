use Rattle.bank_law.proofs.Counts.{short}
use Rattle.bank_law.proofs.Histories.{returns_few}
use Rattle.bank_law.proofs.laws.histories_are_short.Goals as goal

pub returns-clause-short : goal.returns-clause-short
returns-clause-short c = short

pub returns-clause-returns : goal.returns-clause-returns
returns-clause-returns c = returns_few

use Rattle.bank_law.proofs.Supply.{loans_fit, loans_less}
use Rattle.bank_law.proofs.laws.loans_fit.Goals as goal

pub returns-clause-fit : goal.returns-clause-fit
returns-clause-fit c = loans_fit

pub returns-clause-no_more : goal.returns-clause-no_more
returns-clause-no_more c = loans_less

use Rattle.bank_law.proofs.Ends.{accounts_end, outcomes_end}
use Rattle.bank_law.proofs.laws.the_end_is_serial.Goals as goal

pub returns-clause-accounts : goal.returns-clause-accounts
returns-clause-accounts c = accounts_end

pub returns-clause-outcomes : goal.returns-clause-outcomes
returns-clause-outcomes c = outcomes_end

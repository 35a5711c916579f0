use Rattle.tx_exec.proofs.Outcomes.{transaction_outcome, units_add_up}
use Rattle.tx_exec.proofs.laws.transactions_have_outcomes.Goals as goal

pub returns-clause-outcome : goal.returns-clause-outcome
returns-clause-outcome c = transaction_outcome

pub returns-clause-units : goal.returns-clause-units
returns-clause-units c = units_add_up

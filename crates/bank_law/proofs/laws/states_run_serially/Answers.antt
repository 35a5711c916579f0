use Rattle.bank_law.proofs.States.{states_run, serial_states, sums_move}
use Rattle.bank_law.proofs.laws.states_run_serially.Goals as goal

pub returns-clause-accounts : goal.returns-clause-accounts
returns-clause-accounts c = states_run

pub returns-clause-state : goal.returns-clause-state
returns-clause-state c = serial_states

pub returns-clause-sum : goal.returns-clause-sum
returns-clause-sum c = sums_move

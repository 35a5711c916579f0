use Rattle.block_laws.proofs.Fit.{admitted_are_chosen, listed_are_chosen}
use Rattle.block_laws.proofs.admitted.admitted_transactions_are_chosen.Goals as goal

pub returns-clause-by_priority : goal.returns-clause-by_priority
returns-clause-by_priority c = admitted_are_chosen

pub returns-clause-by_position : goal.returns-clause-by_position
returns-clause-by_position c = listed_are_chosen

use Rattle.admission.proofs.FaultLaws.{refusals_by_position_are_of_the_input, refusals_by_priority_are_of_the_input}
use Rattle.admission.proofs.laws.refusals_are_of_the_input.Goals as goal

pub returns-clause-by_priority : goal.returns-clause-by_priority
returns-clause-by_priority c = refusals_by_priority_are_of_the_input

pub returns-clause-by_position : goal.returns-clause-by_position
returns-clause-by_position c = refusals_by_position_are_of_the_input

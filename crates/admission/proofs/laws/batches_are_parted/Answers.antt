use Rattle.admission.proofs.PartLaws.{admitted_batches_are_parted, listed_batches_are_parted}
use Rattle.admission.proofs.laws.batches_are_parted.Goals as goal

pub returns-clause-by_priority : goal.returns-clause-by_priority
returns-clause-by_priority c = admitted_batches_are_parted

pub returns-clause-by_position : goal.returns-clause-by_position
returns-clause-by_position c = listed_batches_are_parted

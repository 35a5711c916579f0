use Rattle.block_laws.proofs.Positions.{admitted_are_parted, listed_are_parted}
use Rattle.block_laws.proofs.admitted.positions_run_or_are_refused.Goals as goal

pub returns-clause-by_priority : goal.returns-clause-by_priority
returns-clause-by_priority c = admitted_are_parted

pub returns-clause-by_position : goal.returns-clause-by_position
returns-clause-by_position c = listed_are_parted

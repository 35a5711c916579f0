use Rattle.block_end.proofs.Sorting.{ascending_ascends, ascending_has}
use Rattle.block_end.proofs.laws.sorted_names_are_the_same.Goals as goal

pub returns-clause-ascend : goal.returns-clause-ascend
returns-clause-ascend c = ascending_ascends

pub returns-clause-same : goal.returns-clause-same
returns-clause-same c = ascending_has

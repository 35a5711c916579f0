use Rattle.admission.specs.Admission.{sifted_out}
use Rattle.admission.proofs.LineLaws.{lines_are_by_priority}
use Rattle.admission.proofs.PartLaws.{batches_run_by_priority, standing_positions_ascend}
use Rattle.admission.proofs.laws.lines_are_by_priority.Goals as goal

pub returns-clause-line : goal.returns-clause-line
returns-clause-line c = λ start batch. lines_are_by_priority (sifted_out start batch) (standing_positions_ascend start batch)

pub returns-clause-order : goal.returns-clause-order
returns-clause-order c = batches_run_by_priority

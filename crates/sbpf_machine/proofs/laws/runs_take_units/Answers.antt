use Rattle.sbpf_machine.proofs.Taking.{steps_take}
use Rattle.sbpf_machine.proofs.laws.runs_take_units.Goals as goal

pub returns : goal.returns
returns c = record { stopped = steps_take }

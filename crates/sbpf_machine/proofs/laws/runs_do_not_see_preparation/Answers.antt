use Rattle.sbpf_machine.proofs.Plain.{run-plain}
use Rattle.sbpf_machine.proofs.laws.runs_do_not_see_preparation.Goals as goal

pub returns : goal.returns
returns c = record { same = run-plain }

use Rattle.sbpf_machine.proofs.Keeping.{steps_keep, ways_keep}
use Rattle.sbpf_machine.proofs.laws.runs_keep_text_and_ranges.Goals as goal

pub returns-clause-stopped : goal.returns-clause-stopped
returns-clause-stopped c = steps_keep

pub returns-clause-going : goal.returns-clause-going
returns-clause-going c = ways_keep

use Rattle.sbpf_verify.proofs.Starts.{start_instruction, instruction_starts}
use Rattle.sbpf_verify.proofs.laws.starts_have_instructions.Goals as goal

pub returns-clause-there : goal.returns-clause-there
returns-clause-there c = start_instruction

pub returns-clause-alone : goal.returns-clause-alone
returns-clause-alone c = instruction_starts

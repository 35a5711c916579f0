use Rattle.program_cache.proofs.ProgramLaws.{ready_program, program_is_ready}
use Rattle.program_cache.proofs.laws.ready_programs_are_verified.Goals as goal

pub returns : goal.returns
returns c = record { ready = λ s key ready e. ready_program s key ready e; again = λ s key ready is. program_is_ready s key ready is }

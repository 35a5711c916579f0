use Rattle.block_laws.proofs.Keeps.{new_programs_ready, new_programs_ready_again, programs_stay, programs_stay_again}
use Rattle.block_laws.proofs.keeping.blocks_keep_programs.Goals as goal

pub returns-clause-stay : goal.returns-clause-stay
returns-clause-stay c = programs_stay

pub returns-clause-ready : goal.returns-clause-ready
returns-clause-ready c = new_programs_ready

pub returns-clause-stay_again : goal.returns-clause-stay_again
returns-clause-stay_again c = programs_stay_again

pub returns-clause-ready_again : goal.returns-clause-ready_again
returns-clause-ready_again c = new_programs_ready_again

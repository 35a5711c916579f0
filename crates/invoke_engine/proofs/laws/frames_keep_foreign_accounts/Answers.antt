use Rattle.invoke_engine.proofs.Foreign.{frame_foreign, instruction_foreign}
use Rattle.invoke_engine.proofs.laws.frames_keep_foreign_accounts.Goals as goal

pub returns-clause-frames : goal.returns-clause-frames
returns-clause-frames c = frame_foreign

pub returns-clause-instructions : goal.returns-clause-instructions
returns-clause-instructions c = instruction_foreign

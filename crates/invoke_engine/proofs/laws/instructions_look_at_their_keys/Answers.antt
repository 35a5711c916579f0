use Rattle.invoke_engine.proofs.Found.{same_instruction}
use Rattle.invoke_engine.proofs.laws.instructions_look_at_their_keys.Goals as goal

pub returns : goal.returns
returns c = record { same = same_instruction }

use Rattle.invoke_engine.proofs.GrownLogs.{instruction-grows}
use Rattle.invoke_engine.proofs.laws.instructions_add_lines.Goals as goal

pub returns : goal.returns
returns c = record { lines = instruction-grows }

use Rattle.invoke_engine.proofs.Traces.{instruction_counts}
use Rattle.invoke_engine.proofs.laws.instructions_are_counted.Goals as goal

pub returns : goal.returns
returns c = record { counted = instruction_counts }

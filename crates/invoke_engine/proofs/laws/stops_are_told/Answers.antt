use Rattle.invoke_engine.proofs.Stops.{instruction-tells}
use Rattle.invoke_engine.proofs.laws.stops_are_told.Goals as goal

pub returns : goal.returns
returns c = record { stop = instruction-tells }

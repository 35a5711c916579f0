use Rattle.prio_graph.proofs.Counting as counting
use Rattle.prio_graph.proofs.laws.ready_are_counted.Goals as goal

pub returns : goal.returns
returns c = record { ready = counting.ready_are_counted }

use Rattle.prio_graph.proofs.Once.{edges_are_single}
use Rattle.prio_graph.proofs.laws.edges_are_single.Goals as goal

pub returns : goal.returns
returns c = record { single = edges_are_single }

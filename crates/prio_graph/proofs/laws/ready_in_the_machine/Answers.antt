use Rattle.prio_graph.proofs.MachineLaws.{ready_is}
use Rattle.prio_graph.proofs.laws.ready_in_the_machine.Goals as goal

pub returns : goal.returns
returns c = record { ready = ready_is }

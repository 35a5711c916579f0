use Rattle.prio_graph.specs.Chained.{Chained}
use Rattle.prio_graph.proofs.edges.edges_of.Given as goal

abbrev pub invariant-loop-position : goal.invariant-loop-position
invariant-loop-position l = Chained l.sets l.position l.last.items l.readers.items l.later.items l.waits.items

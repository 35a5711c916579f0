use Rattle.std.proofs.Common.{arith}
use Rattle.prio_graph.proofs.edges.edges_of.Goals as goal

pub returns-clause-never : goal.returns-clause-never
returns-clause-never c = λ j i l. c.loop-position.invariant.never j i (omega (arith, l, c.loop-position.auto.position-end))

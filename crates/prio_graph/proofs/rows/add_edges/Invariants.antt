use Rattle.std.proofs.Common.{take}
use Rattle.prio_graph.proofs.Adding.{Added}
use Rattle.prio_graph.proofs.rows.add_edges.Given as goal

abbrev pub invariant-loop-j : goal.invariant-loop-j
invariant-loop-j l = Added l.initial.rows l.position (take l.j-index l.earlier) l.rows l.added

use Rattle.std.proofs.Common.{sym, ◌∙◌, ap}
use Rattle.prio_graph.specs.Ready.{ready_count}
use Rattle.prio_graph.proofs.Counting.{ready_count_is}
use Rattle.prio_graph.proofs.graph.Graph.ready_count.Goals as goal

pub returns : goal.returns
returns c =
    let g = c.self.inside in
    c.self.invariant.1 ∙ (sym (ready_count_is g.sets g.marks.items g.waits.items g.later.items g.ready.items c.self.invariant.0) ∙ ap ready_count c.self.view_is)

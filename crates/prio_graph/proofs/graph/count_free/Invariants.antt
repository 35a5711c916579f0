use Rattle.std.proofs.Common.{◌≡◌, ◌==◌, slice_index}
use Rattle.bank_law.specs.Machine.{count_below}
use Rattle.prio_graph.proofs.graph.count_free.Given as goal

abbrev pub invariant-loop-i : goal.invariant-loop-i
invariant-loop-i l = l.free ≡ count_below (λ k. slice_index l.waits k == 0) l.i

use Rattle.std.proofs.Common.{ℕ, ◌<◌, All, slice_index_or, []}
use Rattle.prio_graph.proofs.edges.above_all.Given as goal

abbrev pub invariant-loop-set : goal.invariant-loop-set
invariant-loop-set l = (i : ℕ) → i < l.set-index → All (λ lock. lock.number < l.above) (slice_index_or l.sets i [])

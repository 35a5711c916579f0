use Rattle.std.proofs.Common.{◌<◌, ◌≤◌, take, All}
use Rattle.prio_graph.proofs.edges.above_locks.Given as goal

abbrev pub invariant-loop-lock : goal.invariant-loop-lock
invariant-loop-lock l = (l.initial.above ≤ l.above) × All (λ lock. lock.number < l.above) (take l.lock-index l.locks)

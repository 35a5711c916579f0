use Rattle.std.proofs.Common.{ℕ, ◌≤◌, take, All}
use Rattle.block_shape.specs.Ends.{held_until}
use Rattle.block_shape.proofs.ends.latest.Given as goal

abbrev pub invariant-loop-lock : goal.invariant-loop-lock
invariant-loop-lock l = record {
  above : All (λ lock. held_until l.written l.read lock ≤ l.latest) (take l.lock-index l.locks);
  least : (time : ℕ) → All (λ lock. held_until l.written l.read lock ≤ time) l.locks → l.latest ≤ time;
}

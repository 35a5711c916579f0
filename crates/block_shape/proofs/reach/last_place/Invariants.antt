use Rattle.std.proofs.Common.{ℕ, ◌≤◌, take, All}
use Rattle.block_shape.specs.Holders.{held_place}
use Rattle.block_shape.proofs.reach.last_place.Given as goal

abbrev pub invariant-loop-lock : goal.invariant-loop-lock
invariant-loop-lock l = record {
  above : All (λ lock. held_place l.written l.read l.time lock ≤ l.latest) (take l.lock-index l.locks);
  least : (place : ℕ) → All (λ lock. held_place l.written l.read l.time lock ≤ place) l.locks → l.latest ≤ place;
}

use Rattle.std.proofs.Common.{◌≡◌, ℕ, ◌<◌, [], None, length, drop, slice_index_or}
use Rattle.lock_chains.specs.Passing.{writer_after, readers_after}
use Rattle.lock_chains.proofs.chains.pass_locks.Given as goal

abbrev pub invariant-loop-lock : goal.invariant-loop-lock
invariant-loop-lock l = record {
  writers : (n : ℕ) → n < length l.last
      → writer_after (drop l.lock-index l.locks) l.position n (slice_index_or l.last n None)
      ≡ writer_after l.locks l.position n (slice_index_or l.initial.last n None);
  readers : (n : ℕ) → n < length l.readers
      → readers_after (drop l.lock-index l.locks) l.position n (slice_index_or l.readers n [])
      ≡ readers_after l.locks l.position n (slice_index_or l.initial.readers n []);
}

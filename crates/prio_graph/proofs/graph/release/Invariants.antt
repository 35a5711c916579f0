use Rattle.std.proofs.Common.{◌≡◌, ℕ, ◌+◌, ◌<◌, ◌==◌, length, slice_index, take}
use Rattle.std.specs.Prelude.{◌&&◌, nat_lt, if◌then◌else◌}
use Rattle.prio_graph.specs.Trees.{IsTree, leaf}
use Rattle.prio_graph.specs.Kept.{free_count, times}
use Rattle.prio_graph.proofs.graph.release.Given as goal

abbrev pub invariant-loop-i : goal.invariant-loop-i
invariant-loop-i l = record {
  waits : (k : ℕ) → slice_index l.waits k + times k (take l.i-index l.row) ≡ slice_index l.initial.waits k;
  is_tree : IsTree l.tree (length l.initial.waits);
  freed : free_count l.initial.waits + l.freed ≡ free_count l.waits;
  leaves : (k : ℕ) → k < length l.initial.waits
      → leaf l.tree (length l.initial.waits) k
      ≡ (if nat_lt 0 (times k (take l.i-index l.row)) && (slice_index l.waits k == 0) then k else leaf
      l.initial.tree (length l.initial.waits) k);
}

use Rattle.std.proofs.Common.{◌≡◌, ℕ, ◌*◌, ◌<◌, ◌==◌, length, slice_index}
use Rattle.std.specs.Prelude.{◌&&◌, nat_lt}
use Rattle.prio_graph.specs.Trees.{IsTree, leaf}
use Rattle.prio_graph.specs.Kept.{shown}
use Rattle.prio_graph.proofs.graph.tree_of.Given as goal

abbrev pub invariant-loop-i : goal.invariant-loop-i
invariant-loop-i l = record {
  tree_length : length l.tree.items ≡ 2 * length l.waits;
  is_tree : IsTree l.tree.items (length l.waits);
  leaves : (k : ℕ) → k < length l.waits → leaf l.tree.items (length l.waits) k ≡ shown (nat_lt k l.i && (slice_index l.waits k == 0)) k;
}

use Rattle.std.proofs.Common.{◌≡◌, ◌++◌}
use Rattle.text_views.specs.Pairs.{pairs_to}
use Rattle.text_views.specs.SnapshotLines.{mark_pair}
use Rattle.text_views.proofs.snapshots.add_marks.Given as goal

-- the lines of the places so far
abbrev pub invariant-loop-at : goal.invariant-loop-at
invariant-loop-at l = l.out ≡ l.fn.out ++ pairs_to mark_pair l.left l.right l.at

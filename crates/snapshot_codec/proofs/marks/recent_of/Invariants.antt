use Rattle.std.proofs.Common.{◌≡◌, ◌++◌, length}
use Rattle.snapshot_codec.proofs.marks.recent_of.Given as goal

-- what was taken out stands in the new list
abbrev pub invariant-loop-mark : goal.invariant-loop-mark
invariant-loop-mark l = l.marks ++ l.recent ≡ l.fn.marks

abbrev pub decreases-loop-mark : goal.decreases-loop-mark
decreases-loop-mark l = length l.marks

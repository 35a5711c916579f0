use Rattle.std.proofs.Common.{◌≡◌, ◌++◌}
use Rattle.text_views.specs.Pairs.{pairs_to}
use Rattle.text_views.specs.BlockLines.{line_pair}
use Rattle.text_views.proofs.blocks.add_lines.Given as goal

-- the lines of the places so far
abbrev pub invariant-loop-at : goal.invariant-loop-at
invariant-loop-at l = l.out ≡ l.fn.out ++ pairs_to (line_pair l.entry) l.left l.right l.at

use Rattle.std.proofs.Common.{◌+◌, ◌++◌, length}
use Rattle.std.specs.List.{flat_map}
use Rattle.account_store.specs.State.{entries}
use Rattle.text_views.specs.AccountLines.{left_lines, right_lines}
use Rattle.text_views.proofs.MergeLaws.{Walked, pending}
use Rattle.text_views.proofs.accounts.add_merged.Given as goal

-- the lines so far, and what is left of both walks
abbrev pub invariant-loop-first : goal.invariant-loop-first
invariant-loop-first l = Walked l.left l.right (l.fn.out ++ flat_map (left_lines l.right) (entries l.left))
    (l.fn.others ++ flat_map (right_lines l.left) (entries l.right)) l.out l.others (pending l.first l.lefts)
    (pending l.second l.rights)

abbrev pub decreases-loop-first : goal.decreases-loop-first
decreases-loop-first l = length (pending l.first l.lefts) + length (pending l.second l.rights)

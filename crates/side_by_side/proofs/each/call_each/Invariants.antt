use Rattle.std.proofs.Common.{◌≡◌, ℕ, ◌+◌, ◌<◌, ◌≤◌, get_or}
use Rattle.std.specs.Fork.{ChangesAt}
use Rattle.side_by_side.proofs.each.call_each.Given as goal

abbrev pub invariant-loop-at : goal.invariant-loop-at
invariant-loop-at g l =
    ((j : ℕ) (d : g.row.T.Denot) → l.at ≤ j → get_or l.list j d ≡ get_or l.initial.list j d)
    × ((j : ℕ) (d : g.row.T.Denot) → j < l.at → ChangesAt g.F.Fn l.f (l.base + j) (get_or l.initial.list j d) (get_or l.list j d))

use Rattle.std.proofs.Common.{◌≡◌, length, map}
use Rattle.command_words.specs.Shapes.{is_among}
use Rattle.command_words.proofs.names.is_among.Given as goal

-- none of the names before the others is the one
abbrev pub invariant-loop-others : goal.invariant-loop-others
invariant-loop-others l =
    is_among l.name (map (λ n. n.now) l.names) ≡ is_among l.name (map (λ n. n.now) l.others)

abbrev pub decreases-loop-others : goal.decreases-loop-others
decreases-loop-others l = length l.others

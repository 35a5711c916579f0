use Rattle.std.proofs.Common.{◌≡◌, length, map}
use Rattle.command_words.specs.Arguments.{free_name, setting_of}
use Rattle.command_words.proofs.names.free_name.Given as goal

-- all names before the others are set
abbrev pub invariant-loop-others : goal.invariant-loop-others
invariant-loop-others l =
    free_name (map setting_of l.arguments) (map (λ n. n.now) l.names)
    ≡ free_name (map setting_of l.arguments) (map (λ n. n.now) l.others)

abbrev pub decreases-loop-others : goal.decreases-loop-others
decreases-loop-others l = length l.others

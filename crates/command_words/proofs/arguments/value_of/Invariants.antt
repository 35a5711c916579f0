use Rattle.std.proofs.Common.{◌≡◌, length, map}
use Rattle.command_words.specs.Arguments.{setting_of, value_in}
use Rattle.command_words.proofs.arguments.value_of.Given as goal

-- none of the arguments before the others has the name
abbrev pub invariant-loop-others : goal.invariant-loop-others
invariant-loop-others l =
    value_in l.name (map setting_of l.arguments) ≡ value_in l.name (map setting_of l.others)

abbrev pub decreases-loop-others : goal.decreases-loop-others
decreases-loop-others l = length l.others

use Rattle.std.proofs.Common.{◌≡◌, length, map, option_map}
use Rattle.command_words.specs.Arguments.{setting_of, settings_after, settings_in}
use Rattle.command_words.specs.Shapes.{rules_of}
use Rattle.command_words.proofs.arguments.arguments_in.Given as goal

-- the words before the others have set the arguments, and an option may wait for its value
abbrev pub invariant-loop-others : goal.invariant-loop-others
invariant-loop-others l =
    settings_in (rules_of l.shape) (map (λ w. w.now) l.words)
    ≡ settings_after (rules_of l.shape) (map setting_of l.arguments.items) (option_map (λ o. o.now) l.waits)
    (map (λ w. w.now) l.others)

abbrev pub decreases-loop-others : goal.decreases-loop-others
decreases-loop-others l = length l.others

use Rattle.std.proofs.Common.{sym, ◌∙◌}
use Rattle.command_words.proofs.Words.{none_in_empty}
use Rattle.command_words.proofs.arguments.value_of.Goals as goal

pub returns : goal.returns
returns c = sym (c.loop-others.invariant ∙ none_in_empty c.args.name.now c.loop-others.others.now c.in_default.len_below)

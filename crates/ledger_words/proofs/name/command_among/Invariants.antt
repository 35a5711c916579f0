use Rattle.std.proofs.Common.{◌≡◌, length}
use Rattle.ledger_words.specs.Names.{command_among}
use Rattle.ledger_words.proofs.name.command_among.Given as goal

-- none of the names before the others is the word
abbrev pub invariant-loop-others : goal.invariant-loop-others
invariant-loop-others l = command_among l.names l.word ≡ command_among l.others l.word

abbrev pub decreases-loop-others : goal.decreases-loop-others
decreases-loop-others l = length l.others

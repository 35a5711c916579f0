use Rattle.bank_words.proofs.Spellings.{spelled_is_read, read_is_spelled}
use Rattle.bank_words.proofs.laws.commands_are_their_spellings.Goals as goal

pub returns-clause-spelled : goal.returns-clause-spelled
returns-clause-spelled c = spelled_is_read

pub returns-clause-only : goal.returns-clause-only
returns-clause-only c = read_is_spelled

use Rattle.std.proofs.Common.{rules, MatchResult, Some, ◌≡◌}
use Rattle.bank_words.specs.Commands.{command_in}
use Rattle.bank_words.specs.Reading.{Explains}
use Rattle.bank_words.proofs.Ranges.{ranges}
use Rattle.bank_words.proofs.reading.read_words.Goals as goal

pub returns-clause-ranges : goal.returns-clause-ranges
returns-clause-ranges c =
    let exact : MatchResult c.read_texts.result (λ command. command_in c.args.words.now ≡ Some command) (λ fault. Explains fault (command_in c.args.words.now)) = search rules in
    ranges c.args.words.now c.read_texts.result exact

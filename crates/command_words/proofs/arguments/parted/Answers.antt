use Rattle.std.proofs.Common.{Some, None, arith, sym}
use Rattle.std.proofs.lemmas.Str.Pattern.{split_once_first}
use Rattle.command_words.proofs.Parts.{parted_at, parted_none}
use Rattle.command_words.proofs.arguments.parted.Goals as goal

pub returns-in-Some : goal.returns-in-Some
returns-in-Some c =
    let at = split_once_first 61 c.args.word.now (Some (c.in-Some.name, c.in-Some.value)) c.in-Some.ensures.cases (omega arith) in
    sym (parted_at c.args.word.now c.in-Some.name.now c.in-Some.value.now at.0 at.1 at.2)

pub returns-in-None : goal.returns-in-None
returns-in-None c =
    let none = split_once_first 61 c.args.word.now None c.in-None.ensures.cases (omega arith) in
    sym (parted_none c.args.word.now none)

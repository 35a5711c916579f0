use Rattle.std.proofs.Common.{inl}
use Rattle.std.proofs.lemmas.Result.{IfOk-weaker}
use Rattle.bank_cli.proofs.Ends.{words_refused}
use Rattle.bank_cli.proofs.answer.answer_of.Goals as goal

pub returns-in-Err-Refused-clause-told : goal.returns-in-Err-Refused-clause-told
returns-in-Err-Refused-clause-told g c =
    let read = rw c.in-Err-Refused.field-0-is at c.in-Err-Refused.ensures in
    IfOk-weaker _ _ _ (λ told is. inl (words_refused c.args.words.now _ _ told read.exact is)) c.refuse.ensures

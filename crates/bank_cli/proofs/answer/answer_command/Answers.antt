use Rattle.std.proofs.Common.{sym, ◌∙◌, inl}
use Rattle.std.proofs.lemmas.Result.{IfOk-weaker}
use Rattle.bank_cli.proofs.Ends.{input_ignored, too_long}
use Rattle.bank_cli.proofs.answer.answer_command.Goals as goal

pub returns-then-not-looks_at_input-clause-told : goal.returns-then-not-looks_at_input-clause-told
returns-then-not-looks_at_input-clause-told g c =
    IfOk-weaker _ _ _ (λ told is. inl (input_ignored _ _ _ _ told (sym c.looks_at_input.ensures ∙ c.if-not-looks_at_input.true) is)) c.answer_input.ensures

pub returns-in-Err-TooLong-clause-told : goal.returns-in-Err-TooLong-clause-told
returns-in-Err-TooLong-clause-told g c =
    let read = rw c.in-Err-TooLong.field-0-is at c.in-Err-TooLong.ensures in
    IfOk-weaker _ _ _ (λ told is. inl (too_long _ _ _ _ told (sym c.looks_at_input.ensures ∙ c.if-not-looks_at_input.false) read.bytes read.counts is)) c.refuse.ensures

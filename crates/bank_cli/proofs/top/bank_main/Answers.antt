use Rattle.std.proofs.Common.{◌∙◌, arith, sym}
use Rattle.bank_cli.proofs.Ends.{ends_early, ends_whole, only_a_sink, stops, fault_told, status_told}
use Rattle.bank_cli.proofs.top.bank_main.Goals as goal

pub returns-in-Err-clause-fronts : goal.returns-in-Err-clause-fronts
returns-in-Err-clause-fronts g c = λ _. stops c.args.words.now _ _ _ _ _ c.in-Err.ensures.stopped

pub returns-in-Ok-clause-answered : goal.returns-in-Ok-clause-answered
returns-in-Ok-clause-answered g c = λ four five six. ends_whole c.args.words.now _ _ _ c.in-Ok.told _ _ _ _ c.in-Ok.ensures.told _ four (c.write_answer.ensures.whole five six)

pub returns-in-Ok-clause-source_failed : goal.returns-in-Ok-clause-source_failed
returns-in-Ok-clause-source_failed g c = λ four.
    let whole = c.write_answer.ensures.whole (λ five. absurd (omega (arith, four, five))) (λ six. absurd (omega (arith, four, six))) in
    fault_told c.args.words.now _ _ _ c.in-Ok.told _ _ _ _ c.in-Ok.ensures.told whole.1 (sym whole.0 ∙ four)

pub returns-in-Ok-clause-sink_failed : goal.returns-in-Ok-clause-sink_failed
returns-in-Ok-clause-sink_failed g c = λ five. only_a_sink c.in-Ok.told.status (status_told c.args.words.now _ _ _ _ c.in-Ok.ensures.told) (c.write_answer.ensures.failed five)

pub returns-in-Ok-clause-fronts : goal.returns-in-Ok-clause-fronts
returns-in-Ok-clause-fronts g c = λ _. ends_early c.args.words.now _ _ _ c.in-Ok.told _ _ _ _ c.in-Ok.ensures.told c.write_answer.ensures.begun

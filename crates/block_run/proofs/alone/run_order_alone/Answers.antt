use Rattle.std.proofs.Common.{◌∙◌, ap, subst, IfOk}
use Rattle.tx_exec.specs.declared.admitted.AdmittedBlock.{AdmittedBlock}
use Rattle.block_end.specs.declared.block.Closed.{Closed}
use Rattle.block_end.specs.Answers.{IsClosed}
use Rattle.block_run.proofs.Calls.{same_end, same_may_end, same_run}
use Rattle.block_run.proofs.Runs.{run_may_end}
use Rattle.block_run.proofs.alone.run_order_alone.Goals as goal

pub close-requires-clause-run : goal.close-requires-clause-run
close-requires-clause-run g c κs within =
    let s = c.args.snapshot in
    let opened = c.in_ok-work in
    let ended = c.in_ok-ended in
    let same = same_run s c.args.head.now.slot c.args.order opened.field-0.core.origin.value
    ended.ended.origin.value ended.outcomes opened.ensures.origin ended.ensures.origin
    ended.ensures.outcomes in
    let chosen = c.chosen.ensures ∙ ap (λ (t : AdmittedBlock). t.chosen) opened.ensures.told in
    same_may_end c.args.wires.now c.as_slice.result.now c.args.order c.chosen.result.now _ _ c.as_slice.ensures chosen same
    (run_may_end s c.args.head.now.slot c.args.wires.now c.args.order c.requires.readable c.requires.chosen c.requires.of)

pub returns : goal.returns
returns g c =
    let s = c.args.snapshot in
    let opened = c.in_ok-work in
    let ended = c.in_ok-ended in
    let same = same_run s c.args.head.now.slot c.args.order opened.field-0.core.origin.value
    ended.ended.origin.value ended.outcomes opened.ensures.origin ended.ensures.origin
    ended.ensures.outcomes in
    let chosen = c.chosen.ensures ∙ ap (λ (t : AdmittedBlock). t.chosen) opened.ensures.told in
    let end = same_end s c.args.head.now c.args.wires.now c.as_slice.result.now c.args.order
    c.chosen.result.now opened.field-0.chain ended.ended.origin.value ended.outcomes c.as_slice.ensures
    chosen opened.ensures.chain same in
    subst (λ (wanted : Closed). IfOk c.close.result (IsClosed wanted)) end c.close.ensures

use Rattle.std.proofs.Common.{◌∙◌, ap, subst}
use Rattle.tx_exec.specs.declared.admitted.AdmittedBlock.{AdmittedBlock}
use Rattle.block_end.specs.declared.block.Closed.{Closed}
use Rattle.block_end.specs.Answers.{IsClosedRecord}
use Rattle.block_run.specs.Blocks.{closed}
use Rattle.block_end.specs.declared.block.Head.{Head}
use Rattle.block_run.proofs.Calls.{same_end, same_may_end, same_run, small_run}
use Rattle.block_run.proofs.Runs.{run_may_end}
use Rattle.block_run.proofs.run.record_order.Goals as goal

pub run_work-requires-clause-small : goal.run_work-requires-clause-small
run_work-requires-clause-small g c κs within =
    let s = c.args.snapshot in
    small_run s c.head_of-head.result.slot c.args.batch.wires c.args.order c.in_ok-work.field-0.core.origin.value c.in_ok-work.ensures.origin
    (run_may_end s c.head_of-head.result.slot c.args.batch.wires c.args.order c.requires.readable c.requires.chosen c.requires.of)

pub close_record-requires-clause-run : goal.close_record-requires-clause-run
close_record-requires-clause-run g c κs within =
    let s = c.args.snapshot in
    let opened = c.in_ok-work in
    let ended = c.in_ok-ended in
    let same = same_run s c.head_of-head.result.slot c.args.order opened.field-0.core.origin.value
    ended.ended.origin.value ended.outcomes opened.ensures.origin ended.ensures.origin
    ended.ensures.outcomes in
    let chosen = c.chosen.ensures ∙ ap (λ (t : AdmittedBlock). t.chosen) opened.ensures.told in
    same_may_end c.args.batch.wires c.as_slice-2.result.now c.args.order c.chosen.result.now _ _ c.as_slice-2.ensures chosen same
    (run_may_end s c.head_of-head.result.slot c.args.batch.wires c.args.order c.requires.readable c.requires.chosen c.requires.of)

pub returns : goal.returns
returns g c =
    let s = c.args.snapshot in
    let opened = c.in_ok-work in
    let ended = c.in_ok-ended in
    let same = same_run s c.head_of-head.result.slot c.args.order opened.field-0.core.origin.value
    ended.ended.origin.value ended.outcomes opened.ensures.origin ended.ensures.origin
    ended.ensures.outcomes in
    let chosen = c.chosen.ensures ∙ ap (λ (t : AdmittedBlock). t.chosen) opened.ensures.told in
    let end = same_end s c.head_of-head.result c.args.batch.wires c.as_slice-2.result.now c.args.order
    c.chosen.result.now opened.field-0.chain ended.ended.origin.value ended.outcomes c.as_slice-2.ensures
    chosen opened.ensures.chain same in
    subst (λ (head : Head). IsClosedRecord (closed s head c.args.batch.wires c.args.order) c.in_ok-end.end) c.head_of-head.ensures
    (subst (λ (wanted : Closed). IsClosedRecord wanted c.in_ok-end.end) end c.in_ok-end.ensures)

use Rattle.std.proofs.Common.{refl, ap, ◌∙◌}
use Rattle.admission.specs.Answers.{told_by}
use Rattle.block_record.specs.Record.{bytes_of_record}
use Rattle.block_run.specs.declared.block.BlockResult.{BlockResult}
use Rattle.block_run.specs.Blocks.{closed, head_of}
use Rattle.block_run.proofs.Calls.{admitted_are_of, admitted_result}
use Rattle.block_run.proofs.run.record_parsed.Goals as goal

pub record_order-requires-clause-of : goal.record_order-requires-clause-of
record_order-requires-clause-of g c κs within = admitted_are_of c.args.snapshot c.args.decoded.batch.wires
    (told_by c.in_ok-order.field-0) c.requires.readable c.requires.few c.in_ok-order.ensures.exact

pub returns : goal.returns
returns g c =
    let s = c.args.snapshot in
    let batch = c.args.decoded.batch in
    let answer = told_by c.in_ok-order.field-0 in
    let same = admitted_result s batch answer (closed s (head_of batch) batch.wires answer.order) c.in_ok-order.ensures.exact refl in
    record {
      record_is = c.in_ok-record.ensures.record_is ∙ ap (λ (r : BlockResult). bytes_of_record r.block) same;
      after = c.in_ok-record.ensures.after ∙ ap (λ (r : BlockResult). r.after) same;
      refused = ap (λ (r : BlockResult). r.refused) same;
      writable = c.in_ok-record.ensures.writable;
    }

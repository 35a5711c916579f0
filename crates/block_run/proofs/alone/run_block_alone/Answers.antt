use Rattle.std.proofs.Common.{◌∙◌, ap}
use Rattle.admission.specs.Answers.{told_by}
use Rattle.block_end.specs.declared.block.Head.{Head}
use Rattle.block_run.specs.Blocks.{closed}
use Rattle.block_run.proofs.Calls.{admitted_are_of, admitted_result}
use Rattle.block_run.proofs.alone.run_block_alone.Goals as goal

pub run_order_alone-requires-clause-of : goal.run_order_alone-requires-clause-of
run_order_alone-requires-clause-of g c κs within = admitted_are_of c.args.snapshot c.args.batch.now.wires (told_by c.in_ok-order.field-0) c.requires.readable c.requires.few c.in_ok-order.ensures.exact

pub returns : goal.returns
returns g c = record {
  exact = admitted_result c.args.snapshot c.args.batch.now (told_by c.in_ok-order.field-0) c.in_ok-block.field-0 c.in_ok-order.ensures.exact
      (c.in_ok-block.ensures.exact ∙ ap (λ (head : Head). closed c.args.snapshot head c.args.batch.now.wires c.in_ok-order.field-0.order) c.head_of-head.ensures);
  counted = c.in_ok-block.ensures.counted;
  writable = c.in_ok-block.ensures.writable;
}

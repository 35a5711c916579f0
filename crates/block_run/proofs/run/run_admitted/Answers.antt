use Rattle.std.proofs.Common.{◌∙◌, ap}
use Rattle.admission.specs.Answers.{told_by}
use Rattle.block_end.specs.declared.block.Head.{Head}
use Rattle.block_run.specs.Blocks.{closed}
use Rattle.block_run.proofs.Calls.{admitted_are_of, admitted_result}
use Rattle.block_run.proofs.run.run_admitted.Goals as goal

pub run_order-requires-clause-of : goal.run_order-requires-clause-of
run_order-requires-clause-of g c κs within = admitted_are_of c.args.snapshot c.args.batch.now.wires (told_by c.args.answer) c.requires.readable c.requires.few c.requires.answer

pub returns : goal.returns
returns g c = record {
  exact = admitted_result c.args.snapshot c.args.batch.now (told_by c.args.answer) c.in_ok-block.field-0 c.requires.answer
      (c.in_ok-block.ensures.exact ∙ ap (λ (head : Head). closed c.args.snapshot head c.args.batch.now.wires c.args.answer.order) c.head_of.ensures);
  counted = c.in_ok-block.ensures.counted;
  writable = c.in_ok-block.ensures.writable;
}

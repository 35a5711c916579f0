use Rattle.std.proofs.Common.{refl, arith, true, ◌∙◌}
use Rattle.std.proofs.lemmas.List.{length-set}
use Rattle.message_codec.proofs.LockLaws.{none_marked, one_marked}
use Rattle.message_codec.proofs.roles.program_marks.Goals as goal

pub loop-instruction-init : goal.loop-instruction-init
loop-instruction-init c = record { long = refl; marked = none_marked 256 }

pub loop-instruction-preserved : goal.loop-instruction-preserved
loop-instruction-preserved c =
    let long = c.loop-instruction.invariant.long in
    record {
      long = length-set c.loop-instruction.marks c.from.result true ∙ long;
      marked = λ i. one_marked c.loop-instruction.marks c.args.instructions.now c.loop-instruction.instruction-index c.instruction-item.result c.from.result i
          c.loop-instruction-test.true c.instruction-item.is c.from.ensures (omega arith) (c.loop-instruction.invariant.marked i);
    }

use Rattle.std.specs.Arc.{arc_value}
use Rattle.sbpf_memory.specs.Memory.{stack_size}
use Rattle.sbpf_memory.proofs.Fresh.{fresh-zeros}
use Rattle.sbpf_memory.proofs.memory.Memory.new.Goals as goal

pub returns : goal.returns
returns c =
    fresh-zeros (arc_value c.args.image) c.in_ok-zeros.field-0 c.in_ok-zeros-2.field-0 c.args.input stack_size c.args.heap
    c.in_ok-zeros.ensures c.in_ok-zeros-2.ensures

-- What a machine is after its memory was lent.
use Rattle.std.specs.Borrow.{Lends, MutBor, Fml}
use Rattle.sbpf_memory.specs.Memory.{Ranges}
use Rattle.sbpf_memory.specs.contracts.memory.Memory.{the_row as memory_row}
use Rattle.sbpf_machine.specs.Steps.{State}
use Rattle.sbpf_machine.specs.contracts.machine.Machine.{the_row}

-- with another memory
abbrev pub with_memory : State → Ranges → State
with_memory x memory = record x { context = record x.context { memory = memory } }

-- the machine ends with the memory that its borrower leaves
abbrev pub LendsMemory : MutBor State → MutBor Ranges → Fml
LendsMemory s r = Lends the_row memory_row s r (with_memory s.now)

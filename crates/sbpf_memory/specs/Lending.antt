-- What a memory is after its input was lent.
use Rattle.std.specs.Borrow.{Lends, MutBor, Fml}
use Rattle.data_parts.specs.Parts.{Content}
use Rattle.data_parts.specs.contracts.parts.Parts.{the_row as parts_row}
use Rattle.sbpf_memory.specs.Memory.{Ranges}
use Rattle.sbpf_memory.specs.contracts.memory.Memory.{the_row}

-- with another input
abbrev pub with_input : Ranges → Content → Ranges
with_input m input = record m { input = input }

-- the memory ends with the input that its borrower leaves
abbrev pub LendsInput : MutBor Ranges → MutBor Content → Fml
LendsInput s r = Lends the_row parts_row s r (with_input s.now)

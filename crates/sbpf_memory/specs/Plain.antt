-- Memories without the notes which places are prepared and which accounts were lent: no definition
-- of what programs do looks at them.
use Rattle.std.specs.Prelude.{[], Result, Ok, Err}
use Rattle.data_parts.specs.Parts.{Content}
use Rattle.sbpf_memory.specs.Memory.{Ranges}
use Rattle.sbpf_memory.specs.declared.fault.AccessViolation.{AccessViolation}
use Rattle.sbpf_memory.specs.declared.fault.MemFault.{MemFault}

abbrev pub plain_content : Content → Content
plain_content input = record { bytes = input.bytes; prepared = []; lent = [] }

abbrev pub plain_memory : Ranges → Ranges
plain_memory memory = record memory { input = plain_content memory.input }

-- the memory that a write or a copy gives, plain
abbrev pub plain_written : Result Ranges AccessViolation → Result Ranges AccessViolation
plain_written (Ok memory) = Ok (plain_memory memory)
plain_written (Err violation) = Err violation

abbrev pub plain_copied : Result Ranges MemFault → Result Ranges MemFault
plain_copied (Ok memory) = Ok (plain_memory memory)
plain_copied (Err fault) = Err fault

-- The numbers of the refusals of a memory (this project's own).
use Rattle.std.specs.Prelude.{ℕ, Option, Some, None}
use Rattle.sbpf_memory.specs.declared.fault.MemFault.{MemFault}
use Rattle.sbpf_memory.specs.declared.fault.MemFault.TheVariants.{AccessViolation, Overlap, OutOfMemory}

-- out of memory is no refusal
abbrev pub fault_number : MemFault → Option ℕ
fault_number (AccessViolation addr len write) = Some 1
fault_number Overlap = Some 2
fault_number OutOfMemory = None

-- What a call reads and writes, and how it is refused.
use Rattle.std.specs.Prelude.{ℕ, List, [], Bool, true, false, Option, Some, None, Result, Ok, Err, IsOk}
use Rattle.std.specs.Result.{result_unwrap_or}
use Rattle.sbpf_memory.specs.Memory.{Ranges, read_from, violation_of, write_to, write_refusal, copy_to}
use Rattle.sbpf_memory.specs.Reads.{refused_as, bytes_or}
use Rattle.sbpf_memory.specs.declared.fault.AccessViolation.{AccessViolation as Violation}
use Rattle.sbpf_memory.specs.declared.fault.MemFault.{MemFault}
use Rattle.sbpf_memory.specs.declared.fault.MemFault.TheVariants as Memory
use Rattle.sys_calls.specs.declared.fault.SysFault.{SysFault}
use Rattle.sys_calls.specs.declared.fault.SysFault.TheVariants.{AccessViolation, Overlap, OutOfMemory as no_memory}

-- out of memory, which no input shows
abbrev pub is_sys_memory : SysFault → Bool
is_sys_memory no_memory = true
is_sys_memory _ = false

-- an access that is refused
abbrev pub violated_by : Violation → SysFault
violated_by violation = AccessViolation violation

abbrev pub or_violation : {A : Type 0} → Result A Violation → Result A SysFault
or_violation result = refused_as violated_by result

abbrev pub fault_of : MemFault → SysFault
fault_of (Memory.AccessViolation addr len write) = AccessViolation (violation_of addr len write)
fault_of Memory.Overlap = Overlap
fault_of Memory.OutOfMemory = no_memory

abbrev pub or_fault : {A : Type 0} → Result A MemFault → Result A SysFault
or_fault (Ok x) = Ok x
or_fault (Err fault) = Err (fault_of fault)

-- the bytes of a range of addresses
abbrev pub bytes_read : Ranges → ℕ → ℕ → Result (List ℕ) SysFault
bytes_read m addr len = bytes_or violated_by m addr len

-- a range of addresses may be read
abbrev pub IsReadable : Ranges → ℕ → ℕ → Type 0
IsReadable m addr len = IsOk (read_from m addr len)

-- the bytes of such a range
unfoldable pub held : Ranges → ℕ → ℕ → List ℕ
held m addr len = result_unwrap_or (read_from m addr len) []

-- the memory with other bytes from an address on
abbrev pub bytes_written : Ranges → ℕ → List ℕ → Result Ranges SysFault
bytes_written m addr bytes = or_violation (write_to m addr bytes)

abbrev pub or_tt : Option Violation → Result (Unit {0}) SysFault
or_tt None = Ok tt
or_tt (Some v) = Err (AccessViolation v)

-- whether a write of so many bytes is refused
abbrev pub write_checked : Ranges → ℕ → ℕ → Result (Unit {0}) SysFault
write_checked m addr len = or_tt (write_refusal m addr len)

-- the memory after a copy
abbrev pub bytes_copied : Ranges → ℕ → ℕ → ℕ → Bool → Result Ranges SysFault
bytes_copied m to from len apart = or_fault (copy_to m to from len apart)

-- whether the read of a copy is refused, by what the copy answers
abbrev pub refused_read : Result (Unit {0}) MemFault → Result (Unit {0}) SysFault
refused_read (Err (Memory.AccessViolation addr len false)) =
    Err (AccessViolation (violation_of addr len false))
refused_read _ = Ok tt

-- Reads with a refusal of the caller's own.
use Rattle.std.specs.Prelude.{ℕ, List, Result, Ok, Err}
use Rattle.sbpf_memory.specs.Memory.{Ranges, read_from}
use Rattle.sbpf_memory.specs.declared.fault.AccessViolation.{AccessViolation}

-- a result whose refusal is the caller's own and carries the access that is refused
abbrev pub refused_as : {A E : Type 0} → (AccessViolation → E) → Result A AccessViolation → Result A E
refused_as refusal (Ok x) = Ok x
refused_as refusal (Err violation) = Err (refusal violation)

-- the bytes of a range of addresses
abbrev pub bytes_or : {E : Type 0} → (AccessViolation → E) → Ranges → ℕ → ℕ → Result (List ℕ) E
bytes_or refusal m addr len = refused_as refusal (read_from m addr len)

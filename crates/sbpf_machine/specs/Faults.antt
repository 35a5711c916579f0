-- The numbers of the faults of a machine (this project's own).
use Rattle.std.specs.Prelude.{ℕ}
use Rattle.sbpf_machine.specs.declared.stop.Fault.{Fault}
use Rattle.sbpf_machine.specs.declared.stop.Fault.TheVariants.{UnitsSpent, DivideByZero, AccessViolation, CallDepth, BadCallTarget}

abbrev pub fault_number : Fault → ℕ
fault_number UnitsSpent = 1
fault_number DivideByZero = 2
fault_number (AccessViolation addr len write) = 3
fault_number CallDepth = 4
fault_number (BadCallTarget value) = 5

-- The numbers of the rules of the verifier (this project's own).
use Rattle.std.specs.Prelude.{ℕ}
use Rattle.sbpf_verify.specs.declared.fault.VerifyFault.{VerifyFault}
use Rattle.sbpf_verify.specs.declared.fault.VerifyFault.TheVariants.{Length, Opcode, Register, WritesFrame, ZeroDivisor, Shift, HalfWide, Jump, Helper, OpenEnd, Field}

abbrev pub fault_number : VerifyFault → ℕ
fault_number Length = 1
fault_number (Opcode at) = 2
fault_number (Register at) = 3
fault_number (WritesFrame at) = 4
fault_number (ZeroDivisor at) = 5
fault_number (Shift at) = 6
fault_number (HalfWide at) = 7
fault_number (Jump at) = 8
fault_number (Helper at) = 9
fault_number OpenEnd = 10
fault_number (Field at) = 11

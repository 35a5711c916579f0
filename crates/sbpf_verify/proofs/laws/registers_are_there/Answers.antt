use Rattle.sbpf_verify.proofs.Starts.{has_registers}
use Rattle.sbpf_verify.proofs.laws.registers_are_there.Goals as goal

pub returns : goal.returns
returns c = record { registers = has_registers }

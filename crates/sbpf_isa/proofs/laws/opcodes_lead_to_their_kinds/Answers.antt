use Rattle.sbpf_isa.proofs.Opcodes.{kind_of_opcode}
use Rattle.sbpf_isa.proofs.laws.opcodes_lead_to_their_kinds.Goals as goal

pub returns : goal.returns
returns c = record { kinds = kind_of_opcode }

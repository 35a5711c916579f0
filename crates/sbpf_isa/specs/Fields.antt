-- The fields of a slot that an instruction uses, as this project's profile of sBPF has them.
use Rattle.std.specs.Prelude.{Bool, true, false}
use Rattle.sbpf_isa.specs.declared.fields.Fields.{Fields}
use Rattle.sbpf_isa.specs.declared.rows.Operand.TheVariants.{Immediate, Register}
use Rattle.sbpf_isa.specs.declared.rows.OpKind.{OpKind}
use Rattle.sbpf_isa.specs.declared.rows.OpKind.TheVariants.{Binary, Negate, LittleEndian, BigEndian, Jump, JumpIf, Call, CallRegister, Exit, Load, Store, LoadWide}

-- by destination, source, offset and immediate
abbrev pub fields : Bool → Bool → Bool → Bool → Fields
fields d s o i = record { dst = d; src = s; offset = o; imm = i }

abbrev pub used : OpKind → Fields
used (Binary operation width Immediate) = fields true false false true
used (Binary operation width Register) = fields true true false false
used (Negate width) = fields true false false false
used LittleEndian = fields true false false true
used BigEndian = fields true false false true
used Jump = fields false false true false
used (JumpIf when Immediate) = fields true false true true
used (JumpIf when Register) = fields true true true false
used Call = fields false true false true
used CallRegister = fields false false false true
used Exit = fields false false false false
used (Load size) = fields true true true false
used (Store size Immediate) = fields true false true true
used (Store size Register) = fields true true true false
used LoadWide = fields true false false true

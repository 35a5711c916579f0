-- What holds of each instruction of a verified text.
use Rattle.std.specs.Prelude.{◌≡◌, ◌≤◌, ◌⊎◌, pos, ◌≤ℤ◌}
use Rattle.sbpf_isa.specs.declared.slot.Slot.{Slot}
use Rattle.sbpf_isa.specs.declared.rows.OpKind.{OpKind}
use Rattle.sbpf_isa.specs.declared.rows.OpKind.TheVariants.{LittleEndian, BigEndian, Call, CallRegister}
use Rattle.sbpf_isa.specs.Calls.{invoke_call}

-- the registers that an instruction names are there, and so is the one whose number `callx` has as
-- its immediate
pub record HasRegisters (slot : Slot) (kind : OpKind) : Type 0 where
  pub dst : slot.dst ≤ 10
  pub src : slot.src ≤ 10
  pub called : kind ≡ CallRegister → (pos 0 ≤ℤ slot.imm) × (slot.imm ≤ℤ pos 9)

-- the values of `le`, `be` and `call` are among those that mean something
pub record HasValues (slot : Slot) (kind : OpKind) : Type 0 where
  pub little : kind ≡ LittleEndian
      → (slot.imm ≡ pos 16) ⊎ ((slot.imm ≡ pos 32) ⊎ (slot.imm ≡ pos 64))
  pub big : kind ≡ BigEndian → (slot.imm ≡ pos 16) ⊎ ((slot.imm ≡ pos 32) ⊎ (slot.imm ≡ pos 64))
  pub source : kind ≡ Call → slot.src ≤ 1
  pub helper : kind ≡ Call → slot.src ≡ 0 → (pos 1 ≤ℤ slot.imm) × (slot.imm ≤ℤ pos invoke_call)

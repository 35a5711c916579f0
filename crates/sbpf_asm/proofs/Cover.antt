-- Each instruction that the verifier lets pass has its row, which writes all of it.
use Rattle.std.proofs.Common.{◌≡◌, ℕ, zero, suc, ◌==◌, ◌&&◌, not, Bool, true, false, refl, arith, inl, inr, ◌⊎◌}
use Rattle.std.specs.Prelude.{ℤ, pos, nat_lt, fold}
use Rattle.std.specs.Ordering.{int_eq}
use Rattle.std.specs.List.{list_any}
use Rattle.std.proofs.lemmas.Bool.{or_parts, not-false, eqb-true}
use Rattle.std.proofs.lemmas.Bool.Decides.{Decides-int_eq, nat_tests}
use Rattle.sbpf_isa.specs.declared.slot.Slot.{Slot}
use Rattle.sbpf_isa.specs.declared.rows.Operation.TheVariants.{Add}
use Rattle.sbpf_isa.specs.declared.rows.Width.TheVariants.{Bits64, Bits32}
use Rattle.sbpf_isa.specs.declared.rows.Condition.TheVariants.{Equal}
use Rattle.sbpf_isa.specs.declared.rows.Size.TheVariants.{Four}
use Rattle.sbpf_isa.specs.declared.rows.Operand.TheVariants.{Immediate, Register}
use Rattle.sbpf_isa.specs.declared.rows.OpKind.{OpKind}
use Rattle.sbpf_isa.specs.declared.rows.OpKind.TheVariants.{Binary, Negate, LittleEndian, BigEndian, JumpIf, Call, Load, Store}
use Rattle.sbpf_isa.specs.Rows as isa
use Rattle.sbpf_isa.specs.Fields.{used}
use Rattle.sbpf_isa.specs.declared.fields.Fields.{Fields}
use Rattle.sbpf_verify.specs.Verified.{has_bad_field, has_bad_value, has_stray_field}
use Rattle.sbpf_verify.proofs.Starts.{is_width}
use Rattle.sbpf_asm.specs.declared.instruction.Instruction.{Instruction}
use Rattle.sbpf_asm.specs.Rows.{rows, is_row_of, operands_of, with_immediate}
use Rattle.sbpf_asm.proofs.Operands.{taken}
use Rattle.sbpf_asm.proofs.ListedLines.{IsBare}

-- ---- an instruction has its row

abbrev pub instruction : OpKind → ℕ → ℕ → ℤ → ℤ → Instruction
instruction kind dst src offset imm = record { kind = kind; dst = dst; src = src; offset = offset; imm = imm }

abbrev pub HasRow : Instruction → Type 0
HasRow i = list_any (is_row_of i) rows ≡ true

-- the number of bits of `le` and `be`, and the source of `call`, are ones that have a row
abbrev HasForm : OpKind → ℕ → ℤ → Type 0
HasForm LittleEndian src imm = (imm ≡ pos 16) ⊎ ((imm ≡ pos 32) ⊎ (imm ≡ pos 64))
HasForm BigEndian src imm = (imm ≡ pos 16) ⊎ ((imm ≡ pos 32) ⊎ (imm ≡ pos 64))
HasForm Call src imm = (src ≡ 0) ⊎ (src ≡ 1)
HasForm kind src imm = Unit {0}

named : (k : OpKind) (d s : ℕ) (o m : ℤ) → HasForm k s m → HasRow (instruction k d s o m)
unfolding rows isa.opcode_of
named LittleEndian d s o m (inl e) = rw e refl
named LittleEndian d s o m (inr (inl e)) = rw e refl
named LittleEndian d s o m (inr (inr e)) = rw e refl
named BigEndian d s o m (inl e) = rw e refl
named BigEndian d s o m (inr (inl e)) = rw e refl
named BigEndian d s o m (inr (inr e)) = rw e refl
named Call d s o m (inl e) = rw e refl
named Call d s o m (inr e) = rw e refl
named (Binary Add Bits64 second) d s o m h = refl
named (Binary op Bits64 second) d s o m h = refl
named (Binary op Bits32 second) d s o m h = refl
named (Negate Bits64) d s o m h = refl
named (JumpIf Equal second) d s o m h = refl
named (Load Four) d s o m h = refl
named (Store Four Immediate) d s o m h = refl
named (Store size Immediate) d s o m h = refl
named (Store size Register) d s o m h = refl
named k d s o m h = refl

below_two : (n : ℕ) → nat_lt 1 n ≡ false → (n ≡ 0) ⊎ (n ≡ 1)
below_two zero h = inl refl
below_two (suc zero) h = inr refl
below_two (suc (suc n)) h = absurd (grind (arith, nat_tests))

formed : (k : OpKind) (slot : Slot) → has_bad_value slot k ≡ false → HasForm k slot.src slot.imm
formed LittleEndian slot v = is_width slot.imm v
formed BigEndian slot v = is_width slot.imm v
formed Call slot v = below_two slot.src v
formed k slot v = tt

-- ---- its row writes all of it

-- a field that is not used is 0
abbrev Blank : {X : Type 0} → Bool → X → X → Type 0
Blank true x y = Unit {0}
Blank false x y = x ≡ y

pub record Unused (d s : ℕ) (o m : ℤ) (f : Fields) : Type 0 where
  pub dst : Blank f.dst d 0
  pub src : Blank f.src s 0
  pub offset : Blank f.offset o (pos 0)
  pub imm : Blank f.imm m (pos 0)

zero_nat : (uses : Bool) (n : ℕ) → (not uses && not (n == 0)) ≡ false → Blank uses n 0
zero_nat true n h = tt
zero_nat false n h = eqb-true n 0 (not-false (n == 0) h)

zero_int : (uses : Bool) (z : ℤ) → (not uses && not (int_eq z (pos 0))) ≡ false → Blank uses z (pos 0)
zero_int true z h = tt
zero_int false z h = (Decides-int_eq z (pos 0)).0 (not-false (int_eq z (pos 0)) h)

pub unused : (s : Slot) (f : Fields) → has_stray_field s f ≡ false → Unused s.dst s.src s.offset s.imm f
unused s f h =
    let one = or_parts _ _ h in
    let two = or_parts _ _ one.0 in
    let three = or_parts _ _ two.0 in
    record {
      dst = zero_nat f.dst s.dst three.0;
      src = zero_nat f.src s.src three.1;
      offset = zero_int f.offset s.offset two.1;
      imm = zero_int f.imm s.imm one.1;
    }

-- what a row has by itself is what the instruction has: the source of `call`, the bits of `le` and
-- `be`
abbrev pub HasOwn : OpKind → ℕ → ℤ → ℕ → ℤ → Type 0
HasOwn Call src imm s m = src ≡ s
HasOwn LittleEndian src imm s m = imm ≡ m
HasOwn BigEndian src imm s m = imm ≡ m
HasOwn kind src imm s m = Unit {0}

-- an instruction by the fields of a row of this kind
abbrev pub written_of : OpKind → ℕ → ℤ → Instruction → Instruction
written_of kind src imm i = fold (taken i) (instruction kind 0 src (pos 0) imm) (operands_of kind src)

call_written : (b : Bool) (d s src : ℕ) (o m imm : ℤ) → (src == 0) ≡ b → d ≡ 0 → src ≡ s → o ≡ pos 0 → written_of Call src imm (instruction Call d s o m) ≡ instruction Call d s o m
call_written true d s src o m imm z e f g = rw z (cc)
call_written false d s src o m imm z e f g = rw z (cc)

pub written_back : (k : OpKind) (d s : ℕ) (o m : ℤ) (src : ℕ) (imm : ℤ) → Unused d s o m (used k)
    → IsBare (with_immediate k) src imm → HasOwn k src imm s m
    → written_of (with_immediate k) src imm (instruction k d s o m) ≡ instruction k d s o m
written_back Call d s o m src imm u b own = call_written (src == 0) d s src o m imm refl u.dst own u.offset
written_back (Binary op w Immediate) d s o m src imm u b own = cc
written_back (JumpIf when Immediate) d s o m src imm u b own = cc
written_back (Store size Immediate) d s o m src imm u b own = cc
written_back k d s o m src imm u b own = cc

-- ---- the two together

-- an instruction that the verifier lets pass, with its row
pub record Fit (i : Instruction) : Type 0 where
  pub has_row : HasRow i
  pub unused : Unused i.dst i.src i.offset i.imm (used i.kind)

pub fit_slot : (s : Slot) (k : OpKind) → has_bad_field s k ≡ false → Fit (instruction k s.dst s.src s.offset s.imm)
fit_slot s k h =
    let parts = or_parts _ _ h in
    record { has_row = named k s.dst s.src s.offset s.imm (formed k s parts.1); unused = unused s (used k) parts.0 }

-- The lines of the instructions of a verified text, read again one by one.
use Rattle.std.proofs.Common.{◌≡◌, ◌<◌, ◌≤◌, ◌+◌, ◌*◌, ◌^◌, ℕ, Bool, true, false, List, Some, refl, arith}
use Rattle.std.specs.Prelude.{ℤ, pos, negsuc, nat_lt, unsigned_abs, ◌≤ℤ◌, if◌then◌else◌}
use Rattle.std.specs.Int.{w16, w32, cast_signed}
use Rattle.std.proofs.lemmas.Bool.Decides.{nat_tests}
use Rattle.std.proofs.lemmas.Int.{ints}
use Rattle.spec_base.specs.Bytes.{IsBytes}
use Rattle.sbpf_isa.specs.Slots.{slot_of, byte}
use Rattle.sbpf_isa.specs.declared.rows.OpKind.{OpKind}
use Rattle.sbpf_isa.specs.declared.rows.OpKind.TheVariants.{CallRegister, LoadWide}
use Rattle.sbpf_verify.specs.Places.{instruction_at}
use Rattle.sbpf_verify.specs.Verified.{IsVerified, has_bad_field}
use Rattle.sbpf_verify.proofs.Starts.{no_row_applies, has_registers}
use Rattle.sbpf_verify.specs.Instructions.{HasRegisters}
use Rattle.sbpf_asm.specs.declared.row.Operand.TheVariants.{RegisterNumber}
use Rattle.sbpf_asm.specs.Rows.{is_wide}
use Rattle.sbpf_asm.specs.Assembly.{is_in_range, fits_offset, fits_immediate, fits_wide}
use Rattle.sbpf_asm.specs.Listing.{instruction_of, instruction_text, wide_number}
use Rattle.sbpf_asm.proofs.Numbers.{Fits64}
use Rattle.sbpf_asm.proofs.Operands.{IsWide, IsNumbered}
use Rattle.sbpf_asm.proofs.Cover.{Fit, fit_slot}
use Rattle.sbpf_asm.proofs.ListedInstructions.{Reads, instruction_back}
use Rattle.sbpf_asm.proofs.ListedSlots.{half_below}

-- ---- the instruction of a slot

fit : (text : List ℕ) (p : ℕ) (k : OpKind) → has_bad_field (slot_of text p) k ≡ false → Fit (instruction_of text p k)
fit text p LoadWide h = fit_slot (record (slot_of text p) { imm = pos (wide_number text p) }) LoadWide h
fit text p k h = fit_slot (slot_of text p) k h

-- ---- its numbers

signed_16 : (n : ℕ) → n < 65536 → (fits_offset (cast_signed w16 n) ≡ true) × Fits64 (cast_signed w16 n)
signed_16 n h = go (nat_lt n 32768) refl
  where
    go : (b : Bool) → nat_lt n 32768 ≡ b → (fits_offset (cast_signed w16 n) ≡ true) × Fits64 (cast_signed w16 n)
    go true e = rw e (grind (arith, nat_tests), grind (arith, nat_tests))
    go false e = rw e (grind (arith, nat_tests), grind (arith, nat_tests))

signed_32 : (n : ℕ) → n < 4294967296 → (fits_immediate (cast_signed w32 n) ≡ true) × Fits64 (cast_signed w32 n)
signed_32 n h = go (nat_lt n 2147483648) refl
  where
    go : (b : Bool) → nat_lt n 2147483648 ≡ b → (fits_immediate (cast_signed w32 n) ≡ true) × Fits64 (cast_signed w32 n)
    go true e = rw e (grind (arith, nat_tests), grind (arith, nat_tests))
    go false e = rw e (grind (arith, nat_tests), grind (arith, nat_tests))

offset_fits : (text : List ℕ) (p : ℕ) → IsBytes text → (fits_offset (slot_of text p).offset ≡ true) × Fits64 (slot_of text p).offset
unfolding slot_of
offset_fits text p are = signed_16 (byte text p 2 + 256 * byte text p 3) (omega (arith, are (8 * p + 2), are (8 * p + 3)))

imm_fits : (text : List ℕ) (p : ℕ) → IsBytes text → (fits_immediate (slot_of text p).imm ≡ true) × Fits64 (slot_of text p).imm
unfolding slot_of
imm_fits text p are = signed_32
    (byte text p 4 + 256 * byte text p 5 + 65536 * byte text p 6 + 16777216 * byte text p 7)
    (omega (arith, are (8 * p + 4), are (8 * p + 5), are (8 * p + 6), are (8 * p + 7)))

wide_below : (text : List ℕ) (p : ℕ) → IsBytes text → wide_number text p < 2 ^ 64
wide_below text p are = omega (arith, half_below text p are, half_below text (p + 1) are)

natural_fits : (n : ℕ) → n < 2 ^ 64 → fits_wide (pos n) ≡ true
natural_fits n h = grind (arith, nat_tests)

pub in_range : (text : List ℕ) (p : ℕ) (k : OpKind) → IsBytes text → is_in_range (instruction_of text p k) ≡ true
in_range text p k are = go (is_wide k) refl
  where
    go : (b : Bool) → is_wide k ≡ b → is_in_range (instruction_of text p k) ≡ true
    go true w = rw (w, (offset_fits text p are).0) (natural_fits (wide_number text p) (wide_below text p are))
    go false w = rw (w, (offset_fits text p are).0) (imm_fits text p are).0

number_fits : (text : List ℕ) (p : ℕ) (k : OpKind) → IsBytes text → Fits64 (instruction_of text p k).imm
number_fits text p k are = go (is_wide k)
  where
    go : (b : Bool) → Fits64 (if b then pos (wide_number text p) else (slot_of text p).imm)
    go true = wide_below text p are
    go false = (imm_fits text p are).1

is_wide_slot : (text : List ℕ) (p : ℕ) (k : OpKind) → IsBytes text → HasRegisters (slot_of text p) k → IsWide (instruction_of text p k)
is_wide_slot text p k are r = record { dst = r.dst; src = r.src; offset = (offset_fits text p are).1; imm = number_fits text p k are }

below_ten : (n : ℕ) → pos n ≤ℤ pos 9 → n ≤ 10
below_ten n h = omega (arith, ints)

not_below : (n : ℕ) → pos 0 ≤ℤ negsuc n → ⊥
not_below n h = grind (arith, ints)

numbered : (z : ℤ) → (pos 0 ≤ℤ z) × (z ≤ℤ pos 9) → (unsigned_abs z ≤ 10) × (pos (unsigned_abs z) ≡ z)
numbered (pos n) h = (below_ten n h.1, refl)
numbered (negsuc n) h = absurd (not_below n h.0)

is_numbered : (text : List ℕ) (p : ℕ) (k : OpKind) → HasRegisters (slot_of text p) k → k ≡ CallRegister → IsNumbered (instruction_of text p k) RegisterNumber
is_numbered text p k r e = rw e (numbered (slot_of text p).imm (r.called e))

-- the line of an instruction of a verified text is read as it
pub reads : (text : List ℕ) (p : ℕ) (k : OpKind) → IsVerified text → IsBytes text → instruction_at text p ≡ Some k → Reads (instruction_text (instruction_of text p k)) (instruction_of text p k)
reads text p k v are h =
    let registers = has_registers text p k v h in
    instruction_back (instruction_of text p k) (is_wide_slot text p k are registers)
    (fit text p k (no_row_applies text p k v h).1.1.1.0) (is_numbered text p k registers)

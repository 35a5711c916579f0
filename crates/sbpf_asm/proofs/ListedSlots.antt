-- The bytes of a slot of a text are those of the instruction that is listed for it.
use Rattle.std.proofs.Common.{◌≡◌, ◌<◌, ◌≤◌, ◌+◌, ◌*◌, ◌/◌, ◌%◌, ◌-◌, ◌^◌, ℕ, zero, suc, Bool, true, false, List, [], ◌∷◌, ◌++◌, take, drop, length, get_or, Some, refl, sym, ap, ap₂, ◌∙◌, arith, append-nil, ◌⊎◌, inl, inr}
use Rattle.std.specs.Prelude.{ℤ, pos, nat_lt}
use Rattle.std.specs.Int.{Width, w16, w32, w64, w128, cast_unsigned, cast_signed, to_le_bytes}
use mir.Val.{bits, hbits}
use Rattle.std.proofs.Math.Seq.{take-add}
use Rattle.std.proofs.lemmas.Int.{of_z-to_z}
use Rattle.std.proofs.lemmas.List.{drop_more}
use Rattle.spec_base.specs.Bytes.{IsBytes}
use Rattle.sbpf_isa.specs.declared.rows.OpKind.{OpKind}
use Rattle.sbpf_isa.specs.declared.rows.OpKind.TheVariants.{LoadWide}
use Rattle.sbpf_isa.specs.Rows.{kind_at, opcode_of}
use Rattle.sbpf_isa.specs.Slots.{slot_of, byte}
use Rattle.sbpf_isa.proofs.Opcodes.{opcode_of_kind}
use Rattle.sbpf_asm.specs.declared.instruction.Instruction.{Instruction}
use Rattle.sbpf_asm.specs.Rows.{is_wide}
use Rattle.sbpf_asm.specs.Assembly.{low_bytes, first_slot, instruction_bytes}
use Rattle.sbpf_asm.specs.Listing.{instruction_of, wide_number}

-- ---- numbers as bytes

-- a signed number as one of 128 bits
signed : (w : Width) (n : ℕ) → n < 2 ^ bits w → 2 ^ bits w ≤ 2 ^ 128
    → (cast_unsigned w128 (cast_signed w n) ≡ n) ⊎ (cast_unsigned w128 (cast_signed w n) ≡ 2 ^ 128 - 2 ^ bits w + n)
signed w n h few = go (nat_lt n (2 ^ hbits w)) refl
  where
    go : (b : Bool) → nat_lt n (2 ^ hbits w) ≡ b → (cast_unsigned w128 (cast_signed w n) ≡ n) ⊎ (cast_unsigned w128 (cast_signed w n) ≡ 2 ^ 128 - 2 ^ bits w + n)
    go true e = inl (rw e refl)
    go false e = inr (rw e (omega arith))

first_two : (n a b : ℕ) → n % 256 ≡ a → n / 256 % 256 ≡ b → take 2 (to_le_bytes w64 n) ≡ a ∷ b ∷ []
first_two n a b e f = rw (e, f) refl

first_four : (n a b c d : ℕ) → n % 256 ≡ a → n / 256 % 256 ≡ b → n / 65536 % 256 ≡ c → n / 16777216 % 256 ≡ d → take 4 (to_le_bytes w64 n) ≡ a ∷ b ∷ c ∷ d ∷ []
first_four n a b c d e f g h = rw (e, f, g, h) refl

last_four : (n a b c d : ℕ) → n / 2 ^ 32 % 256 ≡ a → n / 2 ^ 40 % 256 ≡ b → n / 2 ^ 48 % 256 ≡ c → n / 2 ^ 56 % 256 ≡ d → drop 4 (to_le_bytes w64 n) ≡ a ∷ b ∷ c ∷ d ∷ []
last_four n a b c d e f g h = rw (e, f, g, h) refl

offset_bytes : (a b : ℕ) → a < 256 → b < 256 → take 2 (low_bytes (cast_signed w16 (a + 256 * b))) ≡ a ∷ b ∷ []
offset_bytes a b x y = go (cast_unsigned w128 (cast_signed w16 (a + 256 * b))) (signed w16 (a + 256 * b) (omega arith) (omega arith))
  where
    go : (n : ℕ) → (n ≡ a + 256 * b) ⊎ (n ≡ 2 ^ 128 - 65536 + (a + 256 * b)) → take 2 (to_le_bytes w64 n) ≡ a ∷ b ∷ []
    go n (inl e) = first_two n a b (omega arith) (omega arith)
    go n (inr e) = first_two n a b (omega arith) (omega arith)

imm_bytes : (a b c d : ℕ) → a < 256 → b < 256 → c < 256 → d < 256 → take 4 (low_bytes (cast_signed w32 (a + 256 * b + 65536 * c + 16777216 * d))) ≡ a ∷ b ∷ c ∷ d ∷ []
imm_bytes a b c d x y z w = go (cast_unsigned w128 (cast_signed w32 (a + 256 * b + 65536 * c + 16777216 * d))) (signed w32 (a + 256 * b + 65536 * c + 16777216 * d) (omega arith) (omega arith))
  where
    go : (n : ℕ) → (n ≡ a + 256 * b + 65536 * c + 16777216 * d) ⊎ (n ≡ 2 ^ 128 - 4294967296 + (a + 256 * b + 65536 * c + 16777216 * d)) → take 4 (to_le_bytes w64 n) ≡ a ∷ b ∷ c ∷ d ∷ []
    go n (inl e) = first_four n a b c d (omega arith) (omega arith) (omega arith) (omega arith)
    go n (inr e) = first_four n a b c d (omega arith) (omega arith) (omega arith) (omega arith)

-- the halves of a number of eight bytes
low_half : (l h a b c d : ℕ) → a < 256 → b < 256 → c < 256 → d < 256 → l ≡ a + 256 * b + 65536 * c + 16777216 * d → take 4 (to_le_bytes w64 (l + 2 ^ 32 * h)) ≡ a ∷ b ∷ c ∷ d ∷ []
low_half l h a b c d x y z w e = first_four (l + 2 ^ 32 * h) a b c d (omega arith) (omega arith) (omega arith) (omega arith)

high_half : (l h a b c d : ℕ) → l < 2 ^ 32 → a < 256 → b < 256 → c < 256 → d < 256 → h ≡ a + 256 * b + 65536 * c + 16777216 * d → drop 4 (to_le_bytes w64 (l + 2 ^ 32 * h)) ≡ a ∷ b ∷ c ∷ d ∷ []
high_half l h a b c d below x y z w e = last_four (l + 2 ^ 32 * h) a b c d (omega arith) (omega arith) (omega arith) (omega arith)

-- ---- slots as bytes

-- the eight bytes of a slot
abbrev pub eight : List ℕ → ℕ → List ℕ
eight text p = byte text p 0 ∷ byte text p 1 ∷ byte text p 2 ∷ byte text p 3 ∷ byte text p 4 ∷ byte text p 5 ∷ byte text p 6 ∷ byte text p 7 ∷ []

-- the bytes from a place on, one by one
abbrev bytes_at : List ℕ → ℕ → ℕ → ℕ → List ℕ
bytes_at text place from zero = []
bytes_at text place from (suc count) = get_or text (place + from) 0 ∷ bytes_at text place (suc from) count

bytes_from : (text : List ℕ) (place from count : ℕ) → place + from + count ≤ length text → take count (drop (place + from) text) ≡ bytes_at text place from count
bytes_from text place from zero h = refl
bytes_from text place from (suc count) h =
    let next : place + from + 1 ≡ place + suc from = omega arith in
    ap (take (suc count)) (drop_more text (place + from) 0 (omega arith))
    ∙ ap (λ (rest : List ℕ). get_or text (place + from) 0 ∷ rest) (ap (λ (i : ℕ). take count (drop i text)) next ∙ bytes_from text place (suc from) count (omega arith))

pub eight_more : (text : List ℕ) (p : ℕ) → 8 * p + 8 ≤ length text → take (8 * (p + 1)) text ≡ take (8 * p) text ++ eight text p
eight_more text p h =
    let next : 8 * (p + 1) ≡ 8 * p + 8 = omega arith in
    let here : 8 * p ≡ 8 * p + 0 = omega arith in
    let bytes : take 8 (drop (8 * p) text) ≡ eight text p = ap (λ (i : ℕ). take 8 (drop i text)) here ∙ bytes_from text (8 * p) 0 8 (omega arith) in
    ap (λ (n : ℕ). take n text) next ∙ take-add (8 * p) 8 text ∙ ap (λ (rest : List ℕ). take (8 * p) text ++ rest) bytes

abbrev with_imm : List ℕ → ℕ → OpKind → ℤ → Instruction
with_imm text p k z = record { kind = k; dst = (slot_of text p).dst; src = (slot_of text p).src; offset = (slot_of text p).offset; imm = z }

abbrev imm_of : List ℕ → ℕ → List ℕ
imm_of text p = byte text p 4 ∷ byte text p 5 ∷ byte text p 6 ∷ byte text p 7 ∷ []

first_back : (text : List ℕ) (p : ℕ) (k : OpKind) (z : ℤ) → IsBytes text
    → kind_at (slot_of text p).opcode ≡ Some k → take 4 (low_bytes z) ≡ imm_of text p
    → first_slot (with_imm text p k z) ≡ eight text p
unfolding slot_of
first_back text p k z are is h =
    let opcode : opcode_of k ≡ byte text p 0 = opcode_of_kind (byte text p 0) k is in
    let below : byte text p 1 < 256 = are (8 * p + 1) in
    let registers : 16 * (byte text p 1 / 16 % 16) + byte text p 1 % 16 % 16 ≡ byte text p 1 = omega arith in
    rw opcode (ap₂ (λ (r : ℕ) (rest : List ℕ). byte text p 0 ∷ r ∷ rest) registers
    (ap₂ (λ (o i : List ℕ). o ++ i) (offset_bytes (byte text p 2) (byte text p 3) (are (8 * p + 2)) (are (8 * p + 3))) h))

slot_imm_bytes : (text : List ℕ) (p : ℕ) → IsBytes text → take 4 (low_bytes (slot_of text p).imm) ≡ imm_of text p
unfolding slot_of
slot_imm_bytes text p are = imm_bytes (byte text p 4) (byte text p 5) (byte text p 6) (byte text p 7) (are (8 * p + 4)) (are (8 * p + 5)) (are (8 * p + 6)) (are (8 * p + 7))

-- an instruction of one slot
pub one_back : (text : List ℕ) (p : ℕ) (k : OpKind) → IsBytes text → kind_at (slot_of text p).opcode ≡ Some k → is_wide k ≡ false → instruction_bytes (instruction_of text p k) ≡ eight text p
one_back text p k are is e = rw e (append-nil (first_slot (with_imm text p k (slot_of text p).imm)) ∙ first_back text p k (slot_of text p).imm are is (slot_imm_bytes text p are))

-- the low half and the high half of the number of `lddw`
half_is : (text : List ℕ) (p : ℕ) → IsBytes text → cast_unsigned w32 (slot_of text p).imm ≡ byte text p 4 + 256 * byte text p 5 + 65536 * byte text p 6 + 16777216 * byte text p 7
unfolding slot_of
half_is text p are = of_z-to_z w32 (byte text p 4 + 256 * byte text p 5 + 65536 * byte text p 6 + 16777216 * byte text p 7)
    (omega (arith, are (8 * p + 4), are (8 * p + 5), are (8 * p + 6), are (8 * p + 7)))

pub half_below : (text : List ℕ) (p : ℕ) → IsBytes text → cast_unsigned w32 (slot_of text p).imm < 2 ^ 32
half_below text p are = omega (arith, half_is text p are, are (8 * p + 4), are (8 * p + 5), are (8 * p + 6), are (8 * p + 7))

-- a second slot has 0 in its first four bytes
pub record IsSecond (text : List ℕ) (p : ℕ) : Type 0 where
  pub opcode : (slot_of text p).opcode ≡ 0
  pub dst : (slot_of text p).dst ≡ 0
  pub src : (slot_of text p).src ≡ 0
  pub offset : (slot_of text p).offset ≡ pos 0

no_offset : (n : ℕ) → n < 65536 → cast_signed w16 n ≡ pos 0 → n ≡ 0
no_offset n few h = sym (of_z-to_z w16 n few) ∙ ap (cast_unsigned w16) h

eight_is : (a b c d : ℕ) (rest : List ℕ) → a ≡ 0 → b ≡ 0 → c ≡ 0 → d ≡ 0 → 0 ∷ 0 ∷ 0 ∷ 0 ∷ rest ≡ a ∷ b ∷ c ∷ d ∷ rest
eight_is a b c d rest e f g h = rw (e, f, g, h) refl

zero_parts : (b : ℕ) → b % 16 ≡ 0 → b / 16 ≡ 0 → b ≡ 0
zero_parts b h k = omega arith

second_zeros : (text : List ℕ) (p : ℕ) (rest : List ℕ) → IsBytes text → IsSecond text p → 0 ∷ 0 ∷ 0 ∷ 0 ∷ rest ≡ byte text p 0 ∷ byte text p 1 ∷ byte text p 2 ∷ byte text p 3 ∷ rest
unfolding slot_of
second_zeros text p rest are s =
    let both : byte text p 2 + 256 * byte text p 3 ≡ 0 = no_offset (byte text p 2 + 256 * byte text p 3) (omega (arith, are (8 * p + 2), are (8 * p + 3))) s.offset in
    eight_is (byte text p 0) (byte text p 1) (byte text p 2) (byte text p 3) rest s.opcode (zero_parts (byte text p 1) s.dst s.src) (omega (arith, both)) (omega (arith, both))

-- an instruction of two slots
pub two_back : (text : List ℕ) (p : ℕ) → IsBytes text → kind_at (slot_of text p).opcode ≡ Some LoadWide
    → IsSecond text (p + 1) → instruction_bytes (instruction_of text p LoadWide)
    ≡ eight text p ++ eight text (p + 1)
two_back text p are is s =
    let low = cast_unsigned w32 (slot_of text p).imm in
    let high = cast_unsigned w32 (slot_of text (p + 1)).imm in
    let front : take 4 (low_bytes (pos (wide_number text p))) ≡ imm_of text p =
    low_half low high (byte text p 4) (byte text p 5) (byte text p 6) (byte text p 7) (are (8 * p + 4)) (are (8 * p + 5)) (are (8 * p + 6)) (are (8 * p + 7)) (half_is text p are) in
    let q = p + 1 in
    let back : drop 4 (low_bytes (pos (wide_number text p))) ≡ imm_of text q =
    high_half low high (byte text q 4) (byte text q 5) (byte text q 6) (byte text q 7) (half_below text p are)
    (are (8 * q + 4)) (are (8 * q + 5)) (are (8 * q + 6)) (are (8 * q + 7)) (half_is text q are) in
    ap₂ (λ (x y : List ℕ). x ++ y) (first_back text p LoadWide (pos (wide_number text p)) are is front)
    (ap (λ (rest : List ℕ). 0 ∷ 0 ∷ 0 ∷ 0 ∷ rest) back ∙ second_zeros text q (imm_of text q) are s)

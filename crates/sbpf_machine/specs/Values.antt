-- What operations compute and when jumps are taken (RFC 9669, in this project's profile).
use Rattle.std.specs.Prelude.{ℕ, ◌+◌, ◌-◌, ◌*◌, ◌/◌, ◌%◌, ◌^◌, ◌==◌, Bool, true, false, not, bit_and, bit_or, bit_xor, int_lt, nat_lt, nat_le, if◌then◌else◌}
use Rattle.std.specs.Int.{Width as Bits, w16, w32, w64, cast_signed, cast_unsigned, int_shr, swap_bytes}
use Rattle.sbpf_isa.specs.declared.rows.Operation.{Operation}
use Rattle.sbpf_isa.specs.declared.rows.Operation.TheVariants.{Add, Sub, Mul, Div, Or, And, Lsh, Rsh, Mod, Xor, Mov, Arsh}
use Rattle.sbpf_isa.specs.declared.rows.Condition.{Condition}
use Rattle.sbpf_isa.specs.declared.rows.Condition.TheVariants.{Equal, NotEqual, Greater, GreaterOrEqual, Less, LessOrEqual, Set, SignedGreater, SignedGreaterOrEqual, SignedLess, SignedLessOrEqual}

-- the numbers of a width are those below its size
abbrev pub size_of : Bits → ℕ
size_of w64 = 2 ^ 64
size_of _ = 2 ^ 32

abbrev pub bits_of : Bits → ℕ
bits_of w64 = 64
bits_of _ = 32

-- what an operation computes of the destination and the source operand, both below the size; a
-- divisor is not 0
abbrev pub value_of : Operation → Bits → ℕ → ℕ → ℕ
value_of Add w d s = (d + s) % size_of w
value_of Sub w d s = (d + (size_of w - s)) % size_of w
value_of Mul w d s = (d * s) % size_of w
value_of Div w d s = d / s
value_of Or w d s = bit_or d s
value_of And w d s = bit_and d s
value_of Lsh w d s = (d * 2 ^ (s % bits_of w)) % size_of w
value_of Rsh w d s = d / 2 ^ (s % bits_of w)
value_of Mod w d s = d % s
value_of Xor w d s = bit_xor d s
value_of Mov w d s = s
value_of Arsh w d s = cast_unsigned w (int_shr (cast_signed w d) (s % bits_of w))

-- the operations with a divisor
abbrev pub divides : Operation → Bool
divides Div = true
divides Mod = true
divides _ = false

-- whether a jump is taken, by the destination and the source operand
abbrev pub holds : Condition → ℕ → ℕ → Bool
holds Equal d s = d == s
holds NotEqual d s = not (d == s)
holds Greater d s = nat_lt s d
holds GreaterOrEqual d s = nat_le s d
holds Less d s = nat_lt d s
holds LessOrEqual d s = nat_le d s
holds Set d s = not (bit_and d s == 0)
holds SignedGreater d s = int_lt (cast_signed w64 s) (cast_signed w64 d)
holds SignedGreaterOrEqual d s = not (int_lt (cast_signed w64 d) (cast_signed w64 s))
holds SignedLess d s = int_lt (cast_signed w64 d) (cast_signed w64 s)
holds SignedLessOrEqual d s = not (int_lt (cast_signed w64 s) (cast_signed w64 d))

-- 0 minus a number
abbrev pub negative : Bits → ℕ → ℕ
negative w d = (size_of w - d) % size_of w

-- the low n bits, where n is 16, 32 or 64
abbrev pub low_bits : ℕ → ℕ → ℕ
low_bits n d = if n == 16 then d % 2 ^ 16 else if n == 32 then d % 2 ^ 32 else d

-- their bytes in the other order
abbrev pub swapped_bits : ℕ → ℕ → ℕ
swapped_bits n d =
    if n == 16 then swap_bytes w16 (d % 2 ^ 16) else if n == 32 then swap_bytes w32 (d % 2 ^ 32)
    else swap_bytes w64 d

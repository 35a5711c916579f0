-- Digits read from the left.
use Rattle.std.proofs.Common.{◌≡◌, ◌<◌, ◌≤◌, ◌+◌, ◌*◌, ◌^◌, ℕ, zero, suc, Bool, true, List, [], ◌∷◌, length, get_or, add-one, arith}
use Rattle.std.specs.List.{list_all}
use Rattle.std.specs.Char.{digit_value}
use Rattle.std.proofs.Math.Nat.{mul-le-mul_left, pow-suc, pow-le-pow_right}
use Rattle.std.proofs.lemmas.Bool.{and_parts}
use Rattle.std.proofs.lemmas.Bool.Decides.{nat_tests}
use Rattle.sbpf_asm.specs.Words.{is_hex_digit}

-- a byte of a text whose bytes all pass a test
pub all_get : (p : ℕ → Bool) (ds : List ℕ) (i : ℕ) → list_all p ds ≡ true → i < length ds → p (get_or ds i 0) ≡ true
all_get p [] i h l = absurd (omega arith)
all_get p (d ∷ ds) zero h l = (and_parts (p d) (list_all p ds) h).0
all_get p (d ∷ ds) (suc i) h l = all_get p ds i (and_parts (p d) (list_all p ds) h).1 (omega arith)

pub hex_digit_below : (c : ℕ) → is_hex_digit c ≡ true → digit_value c < 16
hex_digit_below c h = grind (arith, nat_tests)

-- the next number is below the next power of sixteen
pub one_more : (value radix digit power : ℕ) → value < power → radix ≤ 16 → digit < 16 → value * radix + digit < power * 16
one_more value radix digit power h k l = omega (arith, mul-le-mul_left value k)

pub sixteen_more : (i : ℕ) → 16 ^ (i + 1) ≡ 16 ^ i * 16
sixteen_more i = rw add-one (pow-suc 16 i)

pub sixteen_most : (i : ℕ) → i ≤ 20 → 16 ^ i ≤ 16 ^ 20
sixteen_most i h = pow-le-pow_right (omega arith) h

-- The order of bytes by their first eight as a number.
use Rattle.std.proofs.Common.{◌≡◌, ◌≢◌, ℕ, zero, suc, ◌+◌, ◌*◌, ◌≤◌, ◌<◌, List, [], ◌∷◌, length, take, refl, ap, sym, subst, ◌∙◌, arith}
use Rattle.std.specs.Int.{w64, from_be_bytes}
use Rattle.std.specs.Ordering.{MatchOrdering, nat_cmp, ordering_then}
use Rattle.std.specs.declared.cmp.Ordering.{Ordering}
use Rattle.std.specs.declared.cmp.Ordering.TheVariants.{Less, Equal, Greater}
use Rattle.std.specs.Cmp.{nat_cmp_is, ranks}
use Rattle.std.specs.Cmp.Lexicographic.{slice_cmp}
use Rattle.spec_base.specs.Bytes.{IsBytes}

-- the number that n bytes spell after a
abbrev spelled : ℕ → ℕ → List ℕ → ℕ
spelled zero a bytes = a
spelled (suc n) a [] = a
spelled (suc n) a (b ∷ bytes) = spelled n (a * 256 + b) bytes

-- the greater before them, the greater with them
rises : (n a b : ℕ) (xs ys : List ℕ) → n ≤ length xs → n ≤ length ys → IsBytes xs → a < b → spelled n a xs < spelled n b ys
rises zero a b xs ys p q small l = l
rises (suc n) a b [] ys p q small l = absurd (omega (arith, p))
rises (suc n) a b (x ∷ xs) [] p q small l = absurd (omega (arith, q))
rises (suc n) a b (x ∷ xs) (y ∷ ys) p q small l =
    let s : x < 256 = small 0 in
    rises n (a * 256 + x) (b * 256 + y) xs ys (omega (arith, p)) (omega (arith, q)) (λ i. small (suc i)) (omega (arith, s, l))

-- where the numbers differ, they are in the order of the bytes
decides : (n a : ℕ) (xs ys : List ℕ) → n ≤ length xs → n ≤ length ys → IsBytes xs → IsBytes ys → spelled n a xs ≢ spelled n a ys → slice_cmp nat_cmp xs ys ≡ nat_cmp (spelled n a xs) (spelled n a ys)
decides zero a xs ys p q f g differ = absurd (differ refl)
decides (suc n) a [] ys p q f g differ = absurd (omega (arith, p))
decides (suc n) a (x ∷ xs) [] p q f g differ = absurd (omega (arith, q))
decides (suc n) a (x ∷ xs) (y ∷ ys) p q f g differ = by_first (nat_cmp x y) refl (ranks x y) (decides n (a * 256 + x) xs ys (omega (arith, p)) (omega (arith, q)) (λ i. f (suc i)) (λ i. g (suc i)))
  where
    by_first : (r : Ordering) → nat_cmp x y ≡ r → MatchOrdering r (x < y) (x ≡ y) (y < x)
        → (spelled n (a * 256 + x) xs ≢ spelled n (a * 256 + x) ys → slice_cmp nat_cmp xs ys ≡ nat_cmp (spelled n (a * 256 + x) xs) (spelled n (a * 256 + x) ys))
        → ordering_then (nat_cmp x y) (slice_cmp nat_cmp xs ys) ≡ nat_cmp (spelled n (a * 256 + x) xs) (spelled n (a * 256 + y) ys)
    by_first Less e l rest =
        ap (λ (r : Ordering). ordering_then r (slice_cmp nat_cmp xs ys)) e
        ∙ nat_cmp_is _ _ Less (rises n (a * 256 + x) (a * 256 + y) xs ys (omega (arith, p)) (omega (arith, q)) (λ i. f (suc i)) (omega (arith, l)))
    by_first Greater e l rest =
        ap (λ (r : Ordering). ordering_then r (slice_cmp nat_cmp xs ys)) e
        ∙ nat_cmp_is _ _ Greater (rises n (a * 256 + y) (a * 256 + x) ys xs (omega (arith, q)) (omega (arith, p)) (λ i. g (suc i)) (omega (arith, l)))
    by_first Equal e same rest =
        ap (λ (r : Ordering). ordering_then r (slice_cmp nat_cmp xs ys)) e
        ∙ subst (λ (z : ℕ). spelled n (a * 256 + x) xs ≢ spelled n (a * 256 + z) ys → slice_cmp nat_cmp xs ys ≡ nat_cmp (spelled n (a * 256 + x) xs) (spelled n (a * 256 + z) ys)) same rest differ

-- eight bytes are spelled as they stand in a number, the highest first
spelled_front : (bytes : List ℕ) → 8 ≤ length bytes → from_be_bytes w64 (take 8 bytes) ≡ spelled 8 0 bytes
spelled_front (b0 ∷ b1 ∷ b2 ∷ b3 ∷ b4 ∷ b5 ∷ b6 ∷ b7 ∷ bytes) p = omega arith
spelled_front [] p = absurd (omega (arith, p))
spelled_front (b0 ∷ []) p = absurd (omega (arith, p))
spelled_front (b0 ∷ b1 ∷ []) p = absurd (omega (arith, p))
spelled_front (b0 ∷ b1 ∷ b2 ∷ []) p = absurd (omega (arith, p))
spelled_front (b0 ∷ b1 ∷ b2 ∷ b3 ∷ []) p = absurd (omega (arith, p))
spelled_front (b0 ∷ b1 ∷ b2 ∷ b3 ∷ b4 ∷ []) p = absurd (omega (arith, p))
spelled_front (b0 ∷ b1 ∷ b2 ∷ b3 ∷ b4 ∷ b5 ∷ []) p = absurd (omega (arith, p))
spelled_front (b0 ∷ b1 ∷ b2 ∷ b3 ∷ b4 ∷ b5 ∷ b6 ∷ []) p = absurd (omega (arith, p))

-- where the first eight bytes differ as numbers, these are in the order of all bytes
pub front_decides : (xs ys : List ℕ) (x y : ℕ) → 8 ≤ length xs → 8 ≤ length ys → IsBytes xs → IsBytes ys
    → x ≡ from_be_bytes w64 (take 8 xs) → y ≡ from_be_bytes w64 (take 8 ys) → x ≢ y
    → nat_cmp x y ≡ slice_cmp nat_cmp xs ys
front_decides xs ys x y p q f g is_x is_y differ =
    let in_x : x ≡ spelled 8 0 xs = is_x ∙ spelled_front xs p in
    let in_y : y ≡ spelled 8 0 ys = is_y ∙ spelled_front ys q in
    rw in_x (rw in_y (sym (decides 8 0 xs ys p q f g (λ same. differ (in_x ∙ same ∙ sym in_y)))))

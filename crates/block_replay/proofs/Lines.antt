-- Lists that are compared item by item from the front.
use Rattle.std.proofs.Common.{◌≡◌, ℕ, zero, suc, ◌<◌, Bool, true, false, List, [], ◌∷◌, length, take, get_or, refl, ◌&&◌, arith}
use Rattle.std.specs.Cmp.Lexicographic.{pointwise}

-- the first n are the same
abbrev pub AreSameTo : {X : Type 0} → (X → X → Bool) → List X → List X → ℕ → Type 0
AreSameTo E xs ys n = pointwise E (take n xs) (take n ys) ≡ true

pub same_next : {X : Type 0} (E : X → X → Bool) (xs ys : List X) (n : ℕ) (a b : X) → length xs ≡ length ys
    → n < length xs → a ≡ get_or xs n a → b ≡ get_or ys n b → AreSameTo E xs ys n → E a b ≡ true
    → AreSameTo E xs ys (suc n)
same_next E [] ys n a b count below first second same one = absurd (omega (arith, below))
same_next E (x ∷ xs) [] n a b count below first second same one = absurd (omega (arith, count))
same_next E (x ∷ xs) (y ∷ ys) zero a b count below first second same one = rw (← first, ← second, one) refl
same_next E (x ∷ xs) (y ∷ ys) (suc n) a b count below first second same one =
    by_test (E x y) same (λ rest. same_next E xs ys n a b (omega (arith, count)) (omega (arith, below)) first second rest one)
  where
    by_test : (c : Bool) → (c && pointwise E (take n xs) (take n ys)) ≡ true → (AreSameTo E xs ys n → AreSameTo E xs ys (suc n)) → (c && pointwise E (take (suc n) xs) (take (suc n) ys)) ≡ true
    by_test true rest next = next rest
    by_test false rest next = absurd (cc)

pub other_here : {X : Type 0} (E : X → X → Bool) (xs ys : List X) (n : ℕ) (a b : X) → length xs ≡ length ys
    → n < length xs → a ≡ get_or xs n a → b ≡ get_or ys n b → E a b ≡ false → pointwise E xs ys ≡ false
other_here E [] ys n a b count below first second one = absurd (omega (arith, below))
other_here E (x ∷ xs) [] n a b count below first second one = absurd (omega (arith, count))
other_here E (x ∷ xs) (y ∷ ys) zero a b count below first second one = rw (← first, ← second, one) refl
other_here E (x ∷ xs) (y ∷ ys) (suc n) a b count below first second one =
    by_test (E x y) (other_here E xs ys n a b (omega (arith, count)) (omega (arith, below)) first second one)
  where
    by_test : (c : Bool) → pointwise E xs ys ≡ false → (c && pointwise E xs ys) ≡ false
    by_test true rest = rest
    by_test false rest = refl

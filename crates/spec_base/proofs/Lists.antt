-- Lists: what holds of all items, how long they are, and items beside their numbers.
use Rattle.std.proofs.Common.{◌≡◌, ℕ, zero, suc, ◌+◌, ◌≤◌, List, [], ◌∷◌, ◌++◌, length, take, map, Bool, true, false, cond, sym, ap, ◌∙◌, refl, append_assoc, arith}
use Rattle.std.specs.List.{AllByRecursion, filter, flat_map, enumerate_from}

-- what holds of all items holds of those that pass a test
pub AllByRecursion-filter : {X : Type 0} (P : X → Type 0) (test : X → Bool) (xs : List X)
    → AllByRecursion P xs → AllByRecursion P (filter test xs)
AllByRecursion-filter P test [] all = tt
AllByRecursion-filter {X = X} P test (x ∷ xs) all = by_test (test x) (AllByRecursion-filter P test xs all.1)
  where
    by_test : (b : Bool) → AllByRecursion P (filter test xs)
        → AllByRecursion P (cond b (x ∷ filter test xs) (filter test xs))
    by_test true rest = (all.0, rest)
    by_test false rest = rest

-- what holds of two lists holds of both, one behind the other
pub AllByRecursion-append : {X : Type 0} (P : X → Type 0) (xs ys : List X)
    → AllByRecursion P xs → AllByRecursion P ys → AllByRecursion P (xs ++ ys)
AllByRecursion-append P [] ys one two = two
AllByRecursion-append P (x ∷ xs) ys one two = (one.0, AllByRecursion-append P xs ys one.1 two)

-- no more items pass a test than there are
pub length-filter-most : {X : Type 0} (test : X → Bool) (xs : List X) → length (filter test xs) ≤ length xs
length-filter-most test [] = omega arith
length-filter-most {X = X} test (x ∷ xs) = by_test (test x) (length-filter-most test xs)
  where
    by_test : (b : Bool) → length (filter test xs) ≤ length xs
        → length (cond b (x ∷ filter test xs) (filter test xs)) ≤ length (x ∷ xs)
    by_test true rest = omega (arith, rest)
    by_test false rest = omega (arith, rest)

-- no more items are taken than there are
pub length-take-most : {X : Type 0} (n : ℕ) (xs : List X) → length (take n xs) ≤ length xs
length-take-most zero xs = omega arith
length-take-most (suc n) [] = omega arith
length-take-most (suc n) (x ∷ xs) = let rest = length-take-most n xs in omega (arith, rest)

-- two lists one behind the other, with their numbers
pub flat_numbered : {X Y : Type 0} (f : ℕ × X → List Y) (n m : ℕ) (xs ys : List X) → n + length xs ≡ m
    → flat_map f (enumerate_from n (xs ++ ys)) ≡ flat_map f (enumerate_from n xs) ++ flat_map f (enumerate_from m ys)
flat_numbered f n m [] ys e = let same : n ≡ m = omega arith in rw same refl
flat_numbered f n m (x ∷ xs) ys e =
    let later : n + 1 + length xs ≡ m = omega arith in
    ap (λ l. f (n, x) ++ l) (flat_numbered f (n + 1) m xs ys later) ∙ sym (append_assoc (f (n, x)) _ _)

pub map_numbered : {X Y : Type 0} (f : ℕ × X → Y) (n m : ℕ) (xs ys : List X) → n + length xs ≡ m
    → map f (enumerate_from n (xs ++ ys)) ≡ map f (enumerate_from n xs) ++ map f (enumerate_from m ys)
map_numbered f n m [] ys e = let same : n ≡ m = omega arith in rw same refl
map_numbered f n m (x ∷ xs) ys e =
    let later : n + 1 + length xs ≡ m = omega arith in
    ap (λ l. f (n, x) ∷ l) (map_numbered f (n + 1) m xs ys later)

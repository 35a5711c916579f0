-- Each number of a list once.
use Rattle.std.proofs.Common.{◌≡◌, ℕ, ◌+◌, ◌≤◌, ◌==◌, Bool, true, false, not, ◌||◌, cond, inl, inr, List, [], ◌∷◌, ◌++◌, length, filter, refl, sym, ◌∙◌, ap, arith, eqb-true, eq-eqb, ne_eqb}
use Rattle.std.specs.Prelude.{nat_lt}
use Rattle.std.specs.List.{flat_map}
use Rattle.std.proofs.lemmas.Bool.{false≢true, both_ways, cases_Bool, cases_eq, cond-true, cond-false, or_cases, or_parts, lt-ltb}
use Rattle.std.proofs.lemmas.List.{append-nil}
use Rattle.std.proofs.lemmas.List.Elements.{filter-append}
use Rattle.std.proofs.lemmas.List.Filters.{length-filter_both}
use Rattle.prio_graph.specs.Ready.{set_at}
use Rattle.prio_graph.specs.Chains.{once, awaited}
use Rattle.prio_graph.specs.Kept.{times}
use Rattle.prio_graph.specs.Laws.{EdgesAreSingle}
use Rattle.prio_graph.proofs.Finding.{has, one_if, count-cons}

abbrev others : ℕ → List ℕ → List ℕ
others x xs = filter (λ y. not (y == x)) xs

-- what is taken out stands there no more, and the others stay
times-others : (j x : ℕ) (xs : List ℕ) → times j (others x xs) ≡ cond (x == j) 0 (times j xs)
times-others j x [] = by_case (x == j)
  where
    by_case : (b : Bool) → 0 ≡ cond {A = ℕ} b 0 0
    by_case true = refl
    by_case false = refl
times-others j x (y ∷ ys) =
    let rest = times-others j x ys in
    let here = count-cons (λ z. z == j) y ys in
    elim (cases_eq y x) [
      | inl e ↦
          let out : times j (others x (y ∷ ys)) ≡ times j (others x ys) = ap (λ b. times j (cond (not b) (y ∷ others x ys) (others x ys))) (eq-eqb y x e) in
          elim (cases_eq x j) [
            | inl q ↦ let a = cond-true {A = ℕ} (x == j) 0 (times j ys) (eq-eqb x j q) in let b = cond-true {A = ℕ} (x == j) 0 (times j (y ∷ ys)) (eq-eqb x j q) in omega (arith, out, rest, a, b)
            | inr d ↦
                let a = cond-false {A = ℕ} (x == j) 0 (times j ys) (ne_eqb x j d) in
                let b = cond-false {A = ℕ} (x == j) 0 (times j (y ∷ ys)) (ne_eqb x j d) in
                let other = ap one_if (ne_eqb y j (λ q. d (sym e ∙ q))) in
                omega (arith, out, rest, here, a, b, other)
          ]
      | inr n ↦
          let kept : times j (others x (y ∷ ys)) ≡ times j (y ∷ others x ys) = ap (λ b. times j (cond (not b) (y ∷ others x ys) (others x ys))) (ne_eqb y x n) in
          let front = count-cons (λ z. z == j) y (others x ys) in
          elim (cases_eq x j) [
            | inl q ↦
                let a = cond-true {A = ℕ} (x == j) 0 (times j ys) (eq-eqb x j q) in
                let b = cond-true {A = ℕ} (x == j) 0 (times j (y ∷ ys)) (eq-eqb x j q) in
                let other = ap one_if (ne_eqb y j (λ e. n (e ∙ sym q))) in
                omega (arith, kept, front, rest, a, b, other)
            | inr d ↦
                let a = cond-false {A = ℕ} (x == j) 0 (times j ys) (ne_eqb x j d) in
                let b = cond-false {A = ℕ} (x == j) 0 (times j (y ∷ ys)) (ne_eqb x j d) in
                omega (arith, kept, front, rest, here, a, b)
          ]
    ]

-- what stands in a list stands there once
times-once : (j : ℕ) (xs : List ℕ) → times j (once xs) ≡ one_if (has j xs)
times-once j [] = refl
times-once j (x ∷ xs) =
    count-cons (λ z. z == j) x (others x (once xs))
    ∙ (ap (λ t. one_if (x == j) + t) (times-others j x (once xs) ∙ ap (λ t. cond (x == j) 0 t) (times-once j xs))
    ∙ by_case (x == j) (has j xs))
  where
    by_case : (b h : Bool) → one_if b + cond b 0 (one_if h) ≡ one_if (b || h)
    by_case true h = refl
    by_case false true = refl
    by_case false false = refl

-- what stands in a list is counted there
has-times : (j : ℕ) (xs : List ℕ) → has j xs ≡ nat_lt 0 (times j xs)
has-times j [] = refl
has-times j (x ∷ xs) =
    ap (λ b. (x == j) || b) (has-times j xs)
    ∙ (by_case (x == j) (times j xs)
    ∙ sym (ap (nat_lt 0) (count-cons (λ z. z == j) x xs)))
  where
    by_case : (b : Bool) (t : ℕ) → (b || nat_lt 0 t) ≡ nat_lt 0 (one_if b + t)
    by_case true t = sym (lt-ltb 0 (1 + t) (omega arith))
    by_case false t = let same : t ≡ 0 + t = omega arith in ap (nat_lt 0) same

-- and none is lost
pub has-once : (j : ℕ) (xs : List ℕ) → has j (once xs) ≡ has j xs
has-once j xs = has-times j (once xs) ∙ (ap (nat_lt 0) (times-once j xs) ∙ by_case (has j xs))
  where
    by_case : (b : Bool) → nat_lt 0 (one_if b) ≡ b
    by_case true = refl
    by_case false = refl

pub edges_are_single : EdgesAreSingle
edges_are_single sets i j =
    let each = times-once j (flat_map (awaited sets i) (set_at sets i)) in
    elim (cases_Bool (has j (flat_map (awaited sets i) (set_at sets i)))) [
      | inl t ↦ let one = ap one_if t in omega (arith, each, one)
      | inr f ↦ let one = ap one_if f in omega (arith, each, one)
    ]

-- one number more, which is new or stood there
pub once-push_new : (xs : List ℕ) (x : ℕ) → has x xs ≡ false → once (xs ++ x ∷ []) ≡ once xs ++ x ∷ []
once-push_new [] x h = refl
once-push_new (y ∷ ys) x h =
    let parts = or_parts (y == x) (has x ys) h in
    ap (λ l. y ∷ others y l) (once-push_new ys x parts.1)
    ∙ ap (λ l. y ∷ l)
    (filter-append (λ z. not (z == y)) (once ys) (x ∷ [])
    ∙ ap (λ b. others y (once ys) ++ cond (not b) (x ∷ []) []) (ne_eqb x y (λ e. both_ways _ parts.0 (eq-eqb y x (sym e)))))

pub once-push_again : (xs : List ℕ) (x : ℕ) → has x xs ≡ true → once (xs ++ x ∷ []) ≡ once xs
once-push_again [] x h = absurd (false≢true h)
once-push_again (y ∷ ys) x h =
    elim (cases_Bool (has x ys)) [
      | inl t ↦ ap (λ l. y ∷ others y l) (once-push_again ys x t)
      | inr f ↦
          let same : y ≡ x = elim (or_cases (y == x) (has x ys) h) [ inl t ↦ eqb-true y x t | inr t ↦ absurd (both_ways _ f t) ] in
          ap (λ l. y ∷ others y l) (once-push_new ys x f)
          ∙ ap (λ l. y ∷ l)
          (filter-append (λ z. not (z == y)) (once ys) (x ∷ [])
          ∙ (ap (λ b. others y (once ys) ++ cond (not b) (x ∷ []) []) (eq-eqb x y (sym same))
          ∙ append-nil (others y (once ys))))
    ]

pub length-once : (xs : List ℕ) → length (once xs) ≤ length xs
length-once [] = omega arith
length-once (x ∷ xs) =
    let rest = length-once xs in
    let both = length-filter_both (λ y. not (y == x)) (λ y. not (not (y == x))) (λ y. refl) (once xs) in
    omega (arith, rest, both)

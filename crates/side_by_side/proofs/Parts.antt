-- A list in two parts: calls at the places of both.
use Rattle.std.proofs.Common.{◌≡◌, ℕ, ◌+◌, ◌-◌, ◌<◌, ◌++◌, List, length, get_or, sym, ◌∙◌, ap, subst, inl, inr, arith}
use Rattle.std.proofs.lemmas.Bool.{cases_lt}
use Rattle.std.proofs.lemmas.List.{get_or_append_left, get_or-append-add, length-append}
use Rattle.std.specs.Fork.{ChangesAt}
use Rattle.side_by_side.specs.Places.{AcceptsFrom, ChangesFrom}
use denote.Ref.{MutBor}
use denote.Param.Members.{Shared}

module _ {F T : Type 0} (g : Shared F (ℕ × (MutBor T × Unit {0})) ((Unit {0}) × (MutBor T × Unit {0}))) (f : F)
    (base n : ℕ) (xs front rest : List T) (value : xs ≡ front ++ rest) (long : length front ≡ n) where
  -- an element of the second part
  in_rest : (k : ℕ) (d : T) → get_or xs (n + k) d ≡ get_or rest k d
  in_rest k d = ap (λ ys. get_or ys (n + k) d) value ∙ (ap (λ m. get_or (front ++ rest) (m + k) d) (sym long) ∙ get_or-append-add front rest k d)

  pub accepts_rest : AcceptsFrom g f base xs → AcceptsFrom g f (base + n) rest
  accepts_rest all k d l p is =
      let m : length xs ≡ n + length rest = ap length value ∙ (length-append front rest ∙ ap (λ j. j + length rest) long) in
      subst (λ j. g.pre f (j, (p, tt))) {x = base + (n + k)} (omega arith) (all (n + k) d (omega (arith, l, m)) p (is ∙ sym (in_rest k d)))

  pub changes_both : (front2 rest2 : List T) → ChangesFrom g f base front front2 → ChangesFrom g f (base + n) rest rest2 → ChangesFrom g f base xs (front2 ++ rest2)
  changes_both front2 rest2 a b = record {
    len = length-append front2 rest2 ∙ (ap (λ j. j + length rest2) a.len ∙ (ap (λ j. length front + j) b.len ∙ sym (ap length value ∙ length-append front rest)));
    each = λ k d l. elim (cases_lt k n) [
      | inl below ↦
          let here : k < length front = omega (arith, below, long) in
          let there : k < length front2 = (let e = a.len in omega (arith, here, e)) in
          subst (λ x. ChangesAt g f (base + k) x (get_or (front2 ++ rest2) k d)) (sym (ap (λ ys. get_or ys k d) value ∙ get_or_append_left front rest d k here))
          (subst (ChangesAt g f (base + k) (get_or front k d)) (sym (get_or_append_left front2 rest2 d k there)) (a.each k d here))
      | inr not ↦
          let j = k - n in
          let is : n + j ≡ k = omega (arith, not) in
          let m : length xs ≡ n + length rest = ap length value ∙ (length-append front rest ∙ ap (λ i. i + length rest) long) in
          let same : get_or (front2 ++ rest2) (n + j) d ≡ get_or rest2 j d = ap (λ i. get_or (front2 ++ rest2) (i + j) d) (sym (a.len ∙ long)) ∙ get_or-append-add front2 rest2 j d in
          subst (λ i. ChangesAt g f (base + i) (get_or xs i d) (get_or (front2 ++ rest2) i d)) is
          (subst (λ x. ChangesAt g f (base + (n + j)) x (get_or (front2 ++ rest2) (n + j) d)) (sym (in_rest j d))
          (subst (ChangesAt g f (base + (n + j)) (get_or rest j d)) (sym same)
          (subst (λ i. ChangesAt g f i (get_or rest j d) (get_or rest2 j d)) {x = base + n + j} (omega arith) (b.each j d (omega (arith, l, m, is))))))
    ];
  }

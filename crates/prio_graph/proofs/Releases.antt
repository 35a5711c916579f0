-- One edge less for a position, and what its leaf then shows.
use Rattle.std.proofs.Common.{◌≡◌, ℕ, ◌+◌, ◌-◌, ◌<◌, ◌≤◌, ◌==◌, ◌&&◌, cond, inl, inr, List, length, get_or, set, take, refl, sym, ◌∙◌, ap, ap₂, subst, arith, eq-eqb, ne_eqb, get_or-set_same, get_or-set_other, length-set}
use Rattle.std.specs.Prelude.{nat_lt, slice_index}
use Rattle.std.proofs.lemmas.Bool.{cases_eq, cond-true, cond-false, and_right, lt-ltb}
use Rattle.std.proofs.lemmas.List.Sums.{sum_by_more, sum_by_more_le}
use Rattle.bank_law.specs.Machine.{count_below}
use Rattle.prio_graph.specs.Trees.{leaf}
use Rattle.prio_graph.specs.Kept.{times}
use Rattle.prio_graph.specs.Kept.{free_count}
use Rattle.prio_graph.proofs.Finding.{one_if}
use Rattle.bank_law.proofs.Counts.{count-change}

module _ (row : List ℕ) (i : ℕ) (l : i < length row) where
  abbrev r : ℕ
  r = get_or row i 0

  times-here : times r (take (i + 1) row) ≡ times r (take i row) + 1
  times-here = let more = sum_by_more (λ x. one_if (x == r)) row i 0 l in let one = ap one_if (eq-eqb r r refl) in omega (arith, more, one)

  times-other : (k : ℕ) → (k ≡ r → ⊥) → times k (take (i + 1) row) ≡ times k (take i row)
  times-other k d = let more = sum_by_more (λ x. one_if (x == k)) row i 0 l in let zero = ap one_if (ne_eqb r k (λ e. d (sym e))) in omega (arith, more, zero)

  module _ (first waits : List ℕ) (so_far : (k : ℕ) → slice_index waits k + times k (take i row) ≡ slice_index first k) (enough : (k : ℕ) → times k row ≤ slice_index first k) where
    pub some_left : 1 ≤ slice_index waits r
    some_left =
        let a = sum_by_more_le (λ x. one_if (x == r)) row i 0 l in
        let one = ap one_if (eq-eqb r r refl) in
        let b = enough r in
        let c = so_far r in
        omega (arith, a, one, b, c)

    module _ (inside : r < length waits) where
      abbrev fewer : List ℕ
      fewer = set waits r (slice_index waits r - 1)

      fewer-here : slice_index fewer r ≡ slice_index waits r - 1
      fewer-here = get_or-set_same waits r (slice_index waits r - 1) 0 inside

      fewer-other : (k : ℕ) → (k ≡ r → ⊥) → slice_index fewer k ≡ slice_index waits k
      fewer-other k d = get_or-set_other waits r k (slice_index waits r - 1) 0 d

      pub waits_step : (k : ℕ) → slice_index fewer k + times k (take (i + 1) row) ≡ slice_index first k
      waits_step k =
          elim (cases_eq k r) [
            | inl e ↦
                subst (λ x. slice_index fewer x + times x (take (i + 1) row) ≡ slice_index first x) (sym e)
                (let a = fewer-here in let b = times-here in let c = so_far r in let d = some_left in omega (arith, a, b, c, d))
            | inr d ↦ let a = fewer-other k d in let b = times-other k d in let c = so_far k in omega (arith, a, b, c)
          ]

      -- one position more waits for nobody where its last edge is gone
      free_step : free_count fewer ≡ free_count waits + one_if (slice_index fewer r == 0)
      free_step =
          let left = some_left in
          let change = count-change (λ k. slice_index waits k == 0) (λ k. slice_index fewer k == 0) r (length waits) inside (λ k d. ap (λ w. w == 0) (sym (fewer-other k d))) in
          let before = ap one_if (ne_eqb (slice_index waits r) 0 (λ e. omega (arith, e, left))) in
          let long = ap (count_below (λ k. slice_index fewer k == 0)) (length-set waits r (slice_index waits r - 1)) in
          omega (arith, change, before, long)

      pub freed_step : slice_index fewer r ≡ 0 → free_count fewer ≡ free_count waits + 1
      freed_step z = let step = free_step in let one = ap one_if (eq-eqb (slice_index fewer r) 0 z) in omega (arith, step, one)

      pub unfreed_step : (slice_index fewer r ≡ 0 → ⊥) → free_count fewer ≡ free_count waits
      unfreed_step n = let step = free_step in let none = ap one_if (ne_eqb (slice_index fewer r) 0 n) in omega (arith, step, none)

      abbrev shows : List ℕ → List ℕ → ℕ → ℕ → ℕ → ℕ
      shows ws old count t k = cond (nat_lt 0 t && (slice_index ws k == 0)) k (leaf old count k)

      module _ (count : ℕ) (old tree : List ℕ) (leaves : (k : ℕ) → k < count → leaf tree count k ≡ shows waits old count (times k (take i row)) k) where
        others : (k : ℕ) → k < count → (k ≡ r → ⊥) → leaf tree count k ≡ shows fewer old count (times k (take (i + 1) row)) k
        others k u d = leaves k u ∙ ap₂ (λ t w. cond (nat_lt 0 t && (w == 0)) k (leaf old count k)) (sym (times-other k d)) (sym (fewer-other k d))

        -- the last edge is gone, and the leaf is written
        pub leaf_written : slice_index fewer r ≡ 0 → (next : List ℕ)
            → ((k : ℕ) → k < count → leaf next count k ≡ cond (k == r) r (leaf tree count k)) → (k : ℕ)
            → k < count → leaf next count k ≡ shows fewer old count (times k (take (i + 1) row)) k
        leaf_written z next put k u =
            put k u
            ∙ elim (cases_eq k r) [
              | inl e ↦
                  cond-true (k == r) r (leaf tree count k) (eq-eqb k r e)
                  ∙ subst (λ x. r ≡ shows fewer old count (times x (take (i + 1) row)) x) (sym e)
                  (sym (ap₂ (λ b w. cond (b && (w == 0)) r (leaf old count r)) (lt-ltb 0 (times r (take (i + 1) row)) (let a = times-here in omega (arith, a))) z))
              | inr d ↦ cond-false (k == r) r (leaf tree count k) (ne_eqb k r d) ∙ others k u d
            ]

        -- an edge is left
        pub leaf_kept : (slice_index fewer r ≡ 0 → ⊥) → (k : ℕ) → k < count → leaf tree count k ≡ shows fewer old count (times k (take (i + 1) row)) k
        leaf_kept n k u =
            elim (cases_eq k r) [
              | inl e ↦
                  subst (λ x. x < count → leaf tree count x ≡ shows fewer old count (times x (take (i + 1) row)) x) (sym e)
                  (λ v.
                  let before = some_left in
                  leaves r v
                  ∙ (cond-false _ r (leaf old count r) (and_right (nat_lt 0 (times r (take i row))) (slice_index waits r == 0) (ne_eqb (slice_index waits r) 0 (λ q. omega (arith, before, q))))
                  ∙ sym (cond-false _ r (leaf old count r) (and_right (nat_lt 0 (times r (take (i + 1) row))) (slice_index fewer r == 0) (ne_eqb (slice_index fewer r) 0 n)))))
                  u
              | inr d ↦ others k u d
            ]

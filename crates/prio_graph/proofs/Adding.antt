-- The edges to one position, from one earlier position after the other.
use Rattle.std.proofs.Common.{◌≡◌, ℕ, ◌+◌, ◌-◌, ◌<◌, ◌==◌, Bool, true, false, ◌&&◌, ◌||◌, cond, inl, inr, List, [], ◌∷◌, ◌++◌, length, get_or, refl, sym, ◌∙◌, ap, ap₂, subst, arith, eq-eqb, ne_eqb, get_or-set_same, get_or-set_other}
use Rattle.std.proofs.Math.Bool.{or-false}
use Rattle.std.proofs.Math.Seq.{get_or-append_seam}
use Rattle.std.proofs.lemmas.Bool.{cases_eq, cond_both, cond-true, cond-false, or_right, lt-ltb}
use Rattle.std.proofs.lemmas.List.{length-append}
use Rattle.std.proofs.lemmas.List.Sums.{sum_by_push}
use Rattle.prio_graph.specs.Chains.{once}
use Rattle.prio_graph.specs.Kept.{times, edges, ends_in, AddsEdges}
use Rattle.lock_chains.specs.Passing.{pushed_at}
use Rattle.prio_graph.proofs.Finding.{has, one_if, any-append}
use Rattle.prio_graph.proofs.Once.{has-once, once-push_new, once-push_again}

-- a row ends in what was appended
ends_in-push : (row : List ℕ) (x n : ℕ) → ends_in (row ++ x ∷ []) n ≡ (x == n)
ends_in-push row x n =
    let long = length-append row (x ∷ []) in
    let last : length (row ++ x ∷ []) - 1 ≡ length row = omega (arith, long) in
    ap₂ (λ b y. b && (y == n)) (lt-ltb 0 (length (row ++ x ∷ [])) (omega (arith, long)))
    (ap (λ k. get_or (row ++ x ∷ []) k 0) last ∙ get_or-append_seam row x [] 0)

-- a number stands in a list with one more where it is that or stood there
has-push : (earlier : List ℕ) (x j : ℕ) → has j (earlier ++ x ∷ []) ≡ (has j earlier || (x == j))
has-push earlier x j = any-append (λ y. y == j) earlier (x ∷ []) ∙ ap (λ b. has j earlier || b) (or-false (x == j))

-- The rows next have an edge to the position from each of these earlier ones beside what the rows
-- had, those that end in it are theirs, and they are so many.
pub record Added (rows : List (List ℕ)) (position : ℕ) (earlier : List ℕ) (next : List (List ℕ)) (count : ℕ) : Type 0 where
  pub added : AddsEdges earlier position rows next
  pub ends : (j : ℕ) → ends_in (get_or next j []) position ≡ has j earlier
  pub counted : count ≡ length (once earlier)

module _ (rows : List (List ℕ)) (position : ℕ) (earlier : List ℕ) (next : List (List ℕ)) (count x : ℕ) (A : Added rows position earlier next count) where
  -- a row that ends in the position has the edge already
  pub Added-again : ends_in (get_or next x []) position ≡ true → Added rows position (earlier ++ x ∷ []) next count
  Added-again t =
      let same : once (earlier ++ x ∷ []) ≡ once earlier = once-push_again earlier x (sym (A.ends x) ∙ t) in
      record {
        added = λ j i. A.added j i ∙ ap (λ l. edges rows j i + cond (i == position) (times j l) 0) (sym same);
        ends = λ j. A.ends j ∙ (sym (has-once j earlier) ∙ (ap (has j) (sym same) ∙ has-once j (earlier ++ x ∷ [])));
        counted = A.counted ∙ ap length (sym same);
      }

  -- and another gets one
  module _ (below : x < length next) (f : ends_in (get_or next x []) position ≡ false) where
    row_pushed : get_or (pushed_at next x position) x [] ≡ get_or next x [] ++ position ∷ []
    row_pushed = get_or-set_same next x (get_or next x [] ++ position ∷ []) [] below

    row_other : (j : ℕ) → (j ≡ x → ⊥) → get_or (pushed_at next x position) j [] ≡ get_or next j []
    row_other j d = get_or-set_other next x j (get_or next x [] ++ position ∷ []) [] d

    one_more : once (earlier ++ x ∷ []) ≡ once earlier ++ x ∷ []
    one_more = once-push_new earlier x (sym (A.ends x) ∙ f)

    times_now : (j : ℕ) → times j (once (earlier ++ x ∷ [])) ≡ times j (once earlier) + one_if (x == j)
    times_now j = ap (times j) one_more ∙ sum_by_push (λ y. one_if (y == j)) (once earlier) x

    edges_now : (j i : ℕ) → edges (pushed_at next x position) j i ≡ edges next j i + cond (i == position) (one_if (x == j)) 0
    edges_now j i =
        elim (cases_eq j x) [
          | inl e ↦
              subst (λ k. edges (pushed_at next x position) k i ≡ edges next k i + cond (i == position) (one_if (x == k)) 0) (sym e)
              (ap (times i) row_pushed ∙ (sum_by_push (λ y. one_if (y == i)) (get_or next x []) position
              ∙ ap (λ n. edges next x i + n) at_position))
          | inr d ↦
              let same = ap (times i) (row_other j d) in
              let zero = ap (λ b. cond (i == position) (one_if b) 0) (ne_eqb x j (λ q. d (sym q))) in
              let none = cond_both {A = ℕ} (i == position) 0 0 (λ n. n ≡ 0) (λ t. refl) (λ f. refl) in
              omega (arith, same, zero, none)
        ]
      where
        at_position : one_if (position == i) ≡ cond (i == position) (one_if (x == x)) 0
        at_position =
            elim (cases_eq i position) [
              | inl e ↦ ap one_if (eq-eqb position i (sym e)) ∙ sym (cond-true {A = ℕ} (i == position) _ 0 (eq-eqb i position e) ∙ ap one_if (eq-eqb x x refl))
              | inr d ↦ ap one_if (ne_eqb position i (λ e. d (sym e))) ∙ sym (cond-false {A = ℕ} (i == position) _ 0 (ne_eqb i position d))
            ]

    added_now : AddsEdges (earlier ++ x ∷ []) position rows (pushed_at next x position)
    added_now j i =
        let a = edges_now j i in
        let b = A.added j i in
        let sum = cond-sum (i == position) (times j (once earlier)) (one_if (x == j)) in
        let t = ap (λ n. cond (i == position) n 0) (times_now j) in
        omega (arith, a, b, sum, t)
      where
        cond-sum : (b : Bool) (m n : ℕ) → cond b m 0 + cond b n 0 ≡ cond b (m + n) 0
        cond-sum true m n = refl
        cond-sum false m n = refl

    ends_now : (j : ℕ) → ends_in (get_or (pushed_at next x position) j []) position ≡ has j (earlier ++ x ∷ [])
    ends_now j =
        elim (cases_eq j x) [
          | inl e ↦
              subst (λ k. ends_in (get_or (pushed_at next x position) k []) position ≡ has k (earlier ++ x ∷ [])) (sym e)
              (ap (λ row. ends_in row position) row_pushed
              ∙ (ends_in-push (get_or next x []) position position
              ∙ (eq-eqb position position refl
              ∙ sym (has-push earlier x x ∙ or_right (has x earlier) (x == x) (eq-eqb x x refl)))))
          | inr d ↦
              ap (λ row. ends_in row position) (row_other j d)
              ∙ (A.ends j
              ∙ sym (has-push earlier x j ∙ (ap (λ b. has j earlier || b) (ne_eqb x j (λ q. d (sym q))) ∙ or-false (has j earlier))))
        ]

    pub Added-new : Added rows position (earlier ++ x ∷ []) (pushed_at next x position) (count + 1)
    Added-new = record {
      added = added_now;
      ends = ends_now;
      counted = let so_far = A.counted in let long = ap length one_more ∙ length-append (once earlier) (x ∷ []) in omega (arith, so_far, long);
    }

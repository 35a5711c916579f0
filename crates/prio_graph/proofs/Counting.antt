-- How many positions are ready.
use Rattle.std.proofs.Common.{◌≡◌, ℕ, zero, suc, ◌+◌, ◌<◌, ◌≤◌, ◌==◌, Bool, true, false, not, ◌&&◌, inl, inr, List, length, set, refl, sym, ◌∙◌, ap, ap₂, subst, arith, eqb-true, eq-eqb, ne_eqb}
use Rattle.std.specs.Prelude.{slice_index}
use Rattle.std.proofs.lemmas.Bool.{false≢true, cases_Bool, cases_eq, and_parts, and_from}
use Rattle.bank_law.specs.Machine.{count_below}
use Rattle.bank_law.proofs.Held.{count_below-most, count_below-some}
use Rattle.lock_table.specs.declared.locks.NumberedLock.{NumberedLock}
use Rattle.lock_table.specs.Numbers.{conflicts}
use Rattle.prio_graph.specs.declared.mark.Mark.{Mark}
use Rattle.prio_graph.specs.declared.mark.Mark.TheVariants.{Waiting, Started, Done}
use Rattle.prio_graph.specs.Ready.{Positions, set_at, mark_at, is_waiting_mark, is_done_mark, EarlierDone, IsReady, left_before, is_ready, ready_count}
use Rattle.prio_graph.specs.Laws.{ReadyAreCounted}
use Rattle.prio_graph.specs.Kept.{IsGraph, free_count, waiting_free_count}
use Rattle.prio_graph.proofs.Finding.{one_if}
use Rattle.prio_graph.proofs.ChainLaws.{done-is, counters_tell}
use Rattle.prio_graph.proofs.Moves.{mark-same, mark-other, waiting-is, ready_free, below, free}
use Rattle.bank_law.proofs.Counts.{count-same, count-change}

-- two counts that add up to a third
below-split : (p q r : ℕ → Bool) (n : ℕ) → ((j : ℕ) → j < n → one_if (p j) + one_if (q j) ≡ one_if (r j)) → count_below p n + count_below q n ≡ count_below r n
below-split p q r zero h = refl
below-split p q r (suc n) h =
    let here = h n (omega arith) in
    let rest = below-split p q r n (λ j l. h j (omega arith)) in
    omega (arith, here, rest)

-- nothing passes where the count is 0
below-zero : (p : ℕ → Bool) (n : ℕ) → count_below p n ≡ 0 → (j : ℕ) → j < n → p j ≡ false
below-zero p n z j l =
    elim (cases_Bool (p j)) [
      | inl t ↦ let some = count_below-some p j n l t in absurd (omega (arith, some, z))
      | inr f ↦ f
    ]

below-none : (p : ℕ → Bool) (n : ℕ) → ((j : ℕ) → j < n → p j ≡ false) → count_below p n ≡ 0
below-none p zero h = refl
below-none p (suc n) h =
    let here = ap one_if (h n (omega arith)) in
    let rest = below-none p n (λ j l. h j (omega arith)) in
    omega (arith, here, rest)

-- nothing is left before a position exactly where every earlier conflicting one is done
module _ (p : Positions) (i : ℕ) where
  left_done : left_before p i ≡ 0 → EarlierDone p.sets p.marks i
  left_done z j l c =
      done-is (mark_at p.marks j)
      (ap (λ b. b && not (is_done_mark (mark_at p.marks j))) (sym c)
      ∙ below-zero (λ k. conflicts (set_at p.sets k) (set_at p.sets i) && not (is_done_mark (mark_at p.marks k))) i z j l)

  done_left : EarlierDone p.sets p.marks i → left_before p i ≡ 0
  done_left earlier =
      below-none (λ k. conflicts (set_at p.sets k) (set_at p.sets i) && not (is_done_mark (mark_at p.marks k))) i
      (λ j l. elim (cases_Bool (conflicts (set_at p.sets j) (set_at p.sets i))) [
        | inl t ↦ ap₂ (λ b m. b && not (is_done_mark m)) t (earlier j l t)
        | inr f ↦ ap (λ b. b && not (is_done_mark (mark_at p.marks j))) f
      ])

pub ready_are_counted : ReadyAreCounted
ready_are_counted p i l = (
  (λ h.
      let parts = and_parts (is_waiting_mark (mark_at p.marks i)) (left_before p i == 0) h in
      record { below = l; waits = waiting-is (mark_at p.marks i) parts.0; earlier = left_done p i (eqb-true (left_before p i) 0 parts.1) }),
  (λ r. and_from (is_waiting_mark (mark_at p.marks i)) (left_before p i == 0) (ap is_waiting_mark r.waits) (eq-eqb (left_before p i) 0 (done_left p i r.earlier))),
)

-- no more are counted than there are positions
pub free_most : (waits : List ℕ) → free_count waits ≤ length waits
free_most waits = count_below-most (λ i. slice_index waits i == 0) (length waits)

pub waiting_free_most : (marks : List Mark) (waits : List ℕ) → waiting_free_count marks waits ≤ length waits
waiting_free_most marks waits = count_below-most (λ i. is_waiting_mark (mark_at marks i) && (slice_index waits i == 0)) (length waits)

-- two numbers that are 0 together
zero-same : (a b : ℕ) → (a ≡ 0 → b ≡ 0) → (b ≡ 0 → a ≡ 0) → (a == 0) ≡ (b == 0)
zero-same a b there back =
    elim (cases_eq a 0) [
      | inl e ↦ eq-eqb a 0 e ∙ sym (eq-eqb b 0 (there e))
      | inr d ↦ ne_eqb a 0 d ∙ sym (ne_eqb b 0 (λ e. d (back e)))
    ]

-- what is counted of the waiting ones and of the others
parts_add : (b z : Bool) → (b ≡ false → z ≡ true) → one_if (b && z) + one_if (not b) ≡ one_if z
parts_add true z h = omega arith
parts_add false z h = let e = ap one_if (h refl) in omega (arith, e)

module _ (sets : List (List NumberedLock)) (marks : List Mark) (waits : List ℕ) (rows : List (List ℕ)) (tree : List ℕ) (K : IsGraph sets marks waits rows tree) where
  -- a position that has begun waits for nobody
  begun_free : (i : ℕ) → i < length sets → is_waiting_mark (mark_at marks i) ≡ false → slice_index waits i ≡ 0
  begun_free i l f =
      K.counted i l
      ∙ (counters_tell sets marks K.in_order i l).1 (K.in_order i l (λ w. false≢true (sym f ∙ ap is_waiting_mark w)))

  -- so the ready ones and those that have begun are all that wait for nobody
  pub all_free : waiting_free_count marks waits + count_below (λ i. not (is_waiting_mark (mark_at marks i))) (length waits) ≡ free_count waits
  all_free =
      below-split (λ i. is_waiting_mark (mark_at marks i) && (slice_index waits i == 0)) (λ i. not (is_waiting_mark (mark_at marks i))) (λ i. slice_index waits i == 0) (length waits)
      (λ i l. parts_add (is_waiting_mark (mark_at marks i)) (slice_index waits i == 0) (λ f. eq-eqb (slice_index waits i) 0 (begun_free i (omega (arith, l, K.waits_length)) f)))

module _ (sets : List (List NumberedLock)) (marks : List Mark) (waits : List ℕ) (rows : List (List ℕ)) (tree : List ℕ) (K : IsGraph sets marks waits rows tree) where
  abbrev now : Positions
  now = record { sets = sets; marks = marks }

  abbrev is_free : ℕ → Bool
  is_free i = is_waiting_mark (mark_at marks i) && (slice_index waits i == 0)

  -- the ready ones are those that are waiting and wait for nobody
  pub ready_count_is : ready_count now ≡ waiting_free_count marks waits
  ready_count_is =
      count-same (is_ready now) is_free (length sets)
      (λ i l.
      let tell = counters_tell sets marks K.in_order i l in
      ap (λ b. is_waiting_mark (mark_at marks i) && b)
      (zero-same (left_before now i) (slice_index waits i)
      (λ z. K.counted i l ∙ tell.1 (left_done now i z))
      (λ z. done_left now i (tell.0 (sym (K.counted i l) ∙ z)))))
      ∙ ap (count_below is_free) (sym K.waits_length)

  module _ (p : ℕ) where
    -- position p becomes m
    change : (m : Mark) → p < length sets → waiting_free_count (set marks p m) waits + one_if (is_free p) ≡ waiting_free_count marks waits + one_if (is_waiting_mark m && (slice_index waits p == 0))
    change m l =
        count-change is_free (λ i. is_waiting_mark (mark_at (set marks p m) i) && (slice_index waits i == 0)) p (length waits) (omega (arith, l, K.waits_length))
        (λ j d. ap (λ x. is_waiting_mark x && (slice_index waits j == 0)) (sym (mark-other marks p m j d)))
        ∙ ap (λ x. waiting_free_count marks waits + one_if (is_waiting_mark x && (slice_index waits p == 0))) (mark-same marks p m (omega (arith, l, K.marks_length)))

    pub start_counts : IsReady now p → waiting_free_count marks waits ≡ waiting_free_count (set marks p Started) waits + 1
    start_counts r =
        let c = change Started r.below in
        let before = ap₂ (λ m b. one_if (is_waiting_mark m && b)) r.waits (eq-eqb (slice_index waits p) 0 (ready_free sets marks waits rows tree K p r)) in
        omega (arith, c, before)

    pub unstart_counts : mark_at marks p ≡ Started → waiting_free_count (set marks p Waiting) waits ≡ waiting_free_count marks waits + 1
    unstart_counts s =
        let c = change Waiting (below sets marks waits rows tree K p s) in
        let before = ap (λ m. one_if (is_waiting_mark m && (slice_index waits p == 0))) s in
        let afterwards = ap one_if (eq-eqb (slice_index waits p) 0 (free sets marks waits rows tree K p s)) in
        omega (arith, c, before, afterwards)

    pub finish_counts : mark_at marks p ≡ Started → (after_waits after : List ℕ) → length after_waits ≡ length waits → IsGraph sets (set marks p Done) after_waits rows after
        → (freed : ℕ) → free_count waits + freed ≡ free_count after_waits → waiting_free_count marks waits + freed ≡ waiting_free_count (set marks p Done) after_waits
    finish_counts s after_waits after long N freed more =
        let first = all_free sets marks waits rows tree K in
        let second = all_free sets (set marks p Done) after_waits rows after N in
        let inside = below sets marks waits rows tree K p s in
        let begun =
        count-same (λ i. not (is_waiting_mark (mark_at marks i))) (λ i. not (is_waiting_mark (mark_at (set marks p Done) i))) (length waits)
        (λ i l. elim (cases_eq i p) [
          | inl e ↦ subst (λ x. not (is_waiting_mark (mark_at marks x)) ≡ not (is_waiting_mark (mark_at (set marks p Done) x))) (sym e)
              (ap (λ m. not (is_waiting_mark m)) s ∙ sym (ap (λ m. not (is_waiting_mark m)) (mark-same marks p Done (omega (arith, inside, K.marks_length)))))
          | inr d ↦ ap (λ m. not (is_waiting_mark m)) (sym (mark-other marks p Done i d))
        ]) in
        let same_long = ap (count_below (λ i. not (is_waiting_mark (mark_at (set marks p Done) i)))) long in
        omega (arith, first, second, begun, same_long, more)

-- where all positions are waiting, those that wait for nobody are ready
pub opening_counts : (marks : List Mark) (waits : List ℕ) → ((i : ℕ) → i < length waits → mark_at marks i ≡ Waiting) → free_count waits ≡ waiting_free_count marks waits
opening_counts marks waits all =
    count-same (λ i. slice_index waits i == 0) (λ i. is_waiting_mark (mark_at marks i) && (slice_index waits i == 0)) (length waits)
    (λ i l. ap (λ m. is_waiting_mark m && (slice_index waits i == 0)) (sym (all i l)))

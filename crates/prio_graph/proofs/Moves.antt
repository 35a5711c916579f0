-- What each move of a position does to what a graph keeps.
use Rattle.std.proofs.Common.{◌≡◌, ℕ, ◌+◌, ◌*◌, ◌<◌, ◌≤◌, ◌==◌, Bool, true, false, not, ◌&&◌, ◌⊎◌, cond, inl, inr, List, [], length, get_or, set, refl, sym, ◌∙◌, ap, ap₂, subst, arith, eqb-true, eq-eqb, ne_eqb, get_or-set_same, get_or-set_other, length-set}
use Rattle.std.proofs.lemmas.List.{get_or_past}
use Rattle.std.specs.Prelude.{nat_lt, slice_index, if◌then◌else◌}
use Rattle.std.proofs.lemmas.Bool.{both_ways, cases_Bool, cases_lt, cases_eq, cond-true, cond-false, and_parts, lt-ltb, le-ltb}
use Rattle.lock_table.specs.declared.locks.NumberedLock.{NumberedLock}
use Rattle.lock_table.specs.Numbers.{conflicts}
use Rattle.prio_graph.specs.declared.mark.Mark.{Mark}
use Rattle.prio_graph.specs.declared.mark.Mark.TheVariants.{Waiting, Started, Done}
use Rattle.prio_graph.specs.Ready.{Positions, set_at, mark_at, EarlierDone, IsReady, IsLeastOfReady, is_waiting_mark, is_done_mark}
use Rattle.prio_graph.specs.Chains.{edges_into, counter, StartedInOrder}
use Rattle.prio_graph.specs.Trees.{IsTree, leaf}
use Rattle.prio_graph.specs.Kept.{times, none, shown, IsGraph}
use Rattle.prio_graph.proofs.Finding.{any_at, one_if, count-zero, count-split, count-same, times-positive}
use Rattle.prio_graph.proofs.ChainLaws.{edge-is, counters_tell}

-- a mark that is written
pub mark-same : (marks : List Mark) (p : ℕ) (m : Mark) → p < length marks → mark_at (set marks p m) p ≡ m
mark-same marks p m l = get_or-set_same marks p m Done l

pub mark-other : (marks : List Mark) (p : ℕ) (m : Mark) (i : ℕ) → (i ≡ p → ⊥) → mark_at (set marks p m) i ≡ mark_at marks i
mark-other marks p m i d = get_or-set_other marks p i m Done d

-- what is said of each mark, once one is written
mark-cases : (P : ℕ → Mark → Type 0) (marks : List Mark) (p : ℕ) (m : Mark) → p < length marks → P p m → ((i : ℕ) → (i ≡ p → ⊥) → P i (mark_at marks i)) → (i : ℕ) → P i (mark_at (set marks p m) i)
mark-cases P marks p m l here there i =
    elim (cases_eq i p) [
      | inl e ↦ subst (λ k. P k (mark_at (set marks p m) k)) (sym e) (subst (P p) (sym (mark-same marks p m l)) here)
      | inr d ↦ subst (P i) (sym (mark-other marks p m i d)) (there i d)
    ]

-- a position past the end counts as done
pub inside : (marks : List Mark) (i : ℕ) → (mark_at marks i ≡ Done → ⊥) → i < length marks
inside marks i d = elim (cases_lt i (length marks)) [ inl u ↦ u | inr v ↦ absurd (d (get_or_past marks i Done v)) ]

pub waiting-is : (m : Mark) → is_waiting_mark m ≡ true → m ≡ Waiting
waiting-is Waiting h = refl
waiting-is Started h = absurd (cc)
waiting-is Done h = absurd (cc)

module _ (sets : List (List NumberedLock)) (marks : List Mark) (waits : List ℕ) (rows : List (List ℕ)) (tree : List ℕ) (K : IsGraph sets marks waits rows tree) where
  abbrev now : Positions
  now = record { sets = sets; marks = marks }

  -- a position that is ready waits for nobody
  pub ready_free : (i : ℕ) → IsReady now i → slice_index waits i ≡ 0
  ready_free i r = K.counted i r.below ∙ (counters_tell sets marks K.in_order i r.below).1 r.earlier

  -- and one that waits for nobody is ready
  free_ready : (i : ℕ) → i < length sets → mark_at marks i ≡ Waiting → slice_index waits i ≡ 0 → IsReady now i
  free_ready i l w z = record { below = l; waits = w; earlier = (counters_tell sets marks K.in_order i l).0 (sym (K.counted i l) ∙ z) }

  -- the leaf of a ready position shows it
  ready_shown : (i : ℕ) → IsReady now i → leaf tree (length sets) i ≡ i
  ready_shown i r = K.leaves i r.below
      ∙ cond-true (is_waiting_mark (mark_at marks i) && (slice_index waits i == 0)) i none
      (ap₂ (λ m b. is_waiting_mark m && b) r.waits (eq-eqb (slice_index waits i) 0 (ready_free i r)))

  -- and a leaf that shows something shows a ready position
  shown_ready : (i v : ℕ) → i < length sets → leaf tree (length sets) i ≡ v → (v ≡ none → ⊥) → (i ≡ v) × IsReady now i
  shown_ready i v l e d =
      elim (cases_Bool (is_waiting_mark (mark_at marks i) && (slice_index waits i == 0))) [
        | inl t ↦
            let parts = and_parts (is_waiting_mark (mark_at marks i)) (slice_index waits i == 0) t in (
              sym (cond-true (is_waiting_mark (mark_at marks i) && (slice_index waits i == 0)) i none t) ∙ (sym (K.leaves i l) ∙ e),
              free_ready i l (waiting-is (mark_at marks i) parts.0) (eqb-true (slice_index waits i) 0 parts.1),
            )
        | inr f ↦ absurd (d (sym e ∙ (K.leaves i l ∙ cond-false (is_waiting_mark (mark_at marks i) && (slice_index waits i == 0)) i none f)))
      ]

  -- what the least leaf says
  pub least_is : (v : ℕ) → ((i : ℕ) → i < length sets → v ≤ leaf tree (length sets) i)
      → (v ≡ none) ⊎ ((i : ℕ) × (i < length sets) × (leaf tree (length sets) i ≡ v)) → (v ≡ none → ⊥)
      → IsLeastOfReady now v
  least_is v least (inl e) d = absurd (d e)
  least_is v least (inr (i, l, e)) d =
      let here = shown_ready i v l e d in
      record {
        ready = subst (IsReady now) here.0 here.1;
        least = λ j u r. let a = least j r.below in let b = ready_shown j r in omega (arith, a, b, u);
      }

  pub none_is : (v : ℕ) → ((i : ℕ) → i < length sets → v ≤ leaf tree (length sets) i) → v ≡ none → (i : ℕ) → IsReady now i → ⊥
  none_is v least e i r = let a = least i r.below in let b = ready_shown i r in let few = K.few in let u = r.below in omega (arith, a, b, e, few, u)

  module _ (p : ℕ) where
    -- a started position is one, has its earlier conflicting positions done, and waits for nobody
    module _ (started : mark_at marks p ≡ Started) where
      pub below : p < length sets
      below = let e = K.marks_length in let l = inside marks p (λ d. cc) in omega (arith, e, l)

      before : EarlierDone sets marks p
      before = K.in_order p below (λ w. cc)

      pub free : slice_index waits p ≡ 0
      free = K.counted p below ∙ (counters_tell sets marks K.in_order p below).1 before

    -- where p becomes m and is not done before or afterwards, done positions stay
    done_stays : (m : Mark) → (mark_at marks p ≡ Done → ⊥) → (j : ℕ) → mark_at marks j ≡ Done → mark_at (set marks p m) j ≡ Done
    done_stays m d j e = mark-other marks p m j (λ q. d (subst (λ x. mark_at marks x ≡ Done) q e)) ∙ e

    in_marks : p < length sets → p < length marks
    in_marks l = let e = K.marks_length in omega (arith, e, l)

    in_order-changed : (m : Mark) → p < length sets → (mark_at marks p ≡ Done → ⊥) → ((m ≡ Waiting → ⊥) → EarlierDone sets marks p) → StartedInOrder sets (set marks p m)
    in_order-changed m l d earlier i b n j u c =
        done_stays m d j
        (elim (cases_eq i p) [
          | inl e ↦
              subst (λ x. j < x → conflicts (set_at sets j) (set_at sets x) ≡ true → mark_at marks j ≡ Done) (sym e)
              (earlier (λ w. n (subst (λ x. mark_at (set marks p m) x ≡ Waiting) (sym e) (mark-same marks p m (in_marks l) ∙ w))) j) u c
          | inr q ↦ K.in_order i b (λ w. n (mark-other marks p m i q ∙ w)) j u c
        ])

    -- counters stay where p is not done before or afterwards
    counter-changed : (m : Mark) → p < length sets → is_done_mark (mark_at marks p) ≡ false → is_done_mark m ≡ false → (i : ℕ) → counter sets (set marks p m) i ≡ counter sets marks i
    counter-changed m l a b i =
        count-same (λ j. not (is_done_mark (mark_at (set marks p m) j))) (λ j. not (is_done_mark (mark_at marks j))) (edges_into sets i)
        (λ j h. mark-cases (λ x y. not (is_done_mark y) ≡ not (is_done_mark (mark_at marks x))) marks p m (in_marks l) (ap not (b ∙ sym a)) (λ x d. refl) j)

    -- p becomes m, and its leaf shows v
    module _ (m : Mark) (v : ℕ) (l : p < length sets) (a : is_done_mark (mark_at marks p) ≡ false)
        (b : is_done_mark m ≡ false) (not_done : mark_at marks p ≡ Done → ⊥)
        (earlier : (m ≡ Waiting → ⊥) → EarlierDone sets marks p)
        (shows : v ≡ shown (is_waiting_mark m && (slice_index waits p == 0)) p)
        (after : List ℕ) (after_length : length after ≡ 2 * length sets) (after_tree : IsTree after (length sets))
        (after_leaves : (i : ℕ) → i < length sets → leaf after (length sets) i ≡ (if i == p then v else leaf tree (length sets) i)) where
      changed_leaves : (i : ℕ) → i < length sets → leaf after (length sets) i ≡ shown (is_waiting_mark (mark_at (set marks p m) i) && (slice_index waits i == 0)) i
      changed_leaves i u =
          after_leaves i u
          ∙ elim (cases_eq i p) [
            | inl e ↦
                cond-true (i == p) v (leaf tree (length sets) i) (eq-eqb i p e) ∙ (shows
                ∙ subst (λ x. shown (is_waiting_mark m && (slice_index waits p == 0)) p ≡ shown (is_waiting_mark (mark_at (set marks p m) x) && (slice_index waits x == 0)) x) (sym e)
                (ap (λ y. shown (is_waiting_mark y && (slice_index waits p == 0)) p) (sym (mark-same marks p m (in_marks l)))))
            | inr d ↦
                cond-false (i == p) v (leaf tree (length sets) i) (ne_eqb i p d) ∙ (K.leaves i u
                ∙ ap (λ y. shown (is_waiting_mark y && (slice_index waits i == 0)) i) (sym (mark-other marks p m i d)))
          ]

      changed_keeps : IsGraph sets (set marks p m) waits rows after
      changed_keeps = record {
        few = K.few;
        marks_length = length-set marks p m ∙ K.marks_length;
        waits_length = K.waits_length;
        rows_length = K.rows_length;
        tree_length = after_length;
        in_order = in_order-changed m l not_done earlier;
        counted = λ i u. K.counted i u ∙ sym (counter-changed m l a b i);
        later = K.later;
        never = K.never;
        is_tree = after_tree;
        leaves = changed_leaves;
      }

  pub start_keeps : (p : ℕ) → IsReady now p → (after : List ℕ) → length after ≡ 2 * length sets → IsTree after (length sets)
      → ((i : ℕ) → i < length sets → leaf after (length sets) i ≡ (if i == p then none else leaf tree (length sets) i)) → IsGraph sets (set marks p Started) waits rows after
  start_keeps p r after e t leaves = changed_keeps p Started none r.below (ap is_done_mark r.waits) refl (λ d. let w = r.waits in cc) (λ n. r.earlier) refl after e t leaves

  pub unstart_keeps : (p : ℕ) → mark_at marks p ≡ Started → (after : List ℕ) → length after ≡ 2 * length sets → IsTree after (length sets)
      → ((i : ℕ) → i < length sets → leaf after (length sets) i ≡ (if i == p then p else leaf tree (length sets) i)) → IsGraph sets (set marks p Waiting) waits rows after
  unstart_keeps p s after e t leaves =
      changed_keeps p Waiting p (below p s) (ap is_done_mark s) refl (λ d. cc) (λ n. absurd (n refl))
      (sym (cond-true (slice_index waits p == 0) p none (eq-eqb (slice_index waits p) 0 (free p s)))) after e t leaves

  module _ (p : ℕ) (started : mark_at marks p ≡ Started) where
    -- one edge less for each that leads from p
    counter-finished : (i : ℕ) → counter sets marks i ≡ counter sets (set marks p Done) i + times p (edges_into sets i)
    counter-finished i =
        count-split (λ j. not (is_done_mark (mark_at marks j))) (λ j. not (is_done_mark (mark_at (set marks p Done) j))) (λ j. j == p) (edges_into sets i)
        (λ j h. mark-cases (λ x y. one_if (not (is_done_mark (mark_at marks x))) ≡ one_if (not (is_done_mark y)) + one_if (x == p)) marks p Done (in_marks p (below p started))
        (let was = ap (λ y. one_if (not (is_done_mark y))) started in let one = ap one_if (eq-eqb p p refl) in omega (arith, was, one))
        (λ x d. let zero = ap one_if (ne_eqb x p d) in omega (arith, zero)) j)

    -- each later end is a position, and has as many edges to lose
    pub row_within : (row : List ℕ) → row ≡ get_or rows p [] → (k d : ℕ) → k < length row → get_or row k d < length waits
    row_within row e k d l =
        elim (cases_lt (get_or row k d) (length sets)) [
          | inl u ↦ let w = K.waits_length in omega (arith, u, w)
          | inr v ↦
              let never : times (get_or row k d) row ≡ 0 = ap (times (get_or row k d)) e ∙ K.never p (get_or row k d) v in
              let stands = any_at (λ x. x == get_or row k d) row k d l (eq-eqb (get_or row k d) (get_or row k d) refl) in
              absurd (both_ways _ (count-zero (λ x. x == get_or row k d) row never (get_or row k d) stands) (eq-eqb (get_or row k d) (get_or row k d) refl))
        ]

    pub row_enough : (row : List ℕ) → row ≡ get_or rows p [] → (i : ℕ) → times i row ≤ slice_index waits i
    row_enough row e i =
        let row_is = ap (times i) e in
        elim (cases_lt i (length sets)) [
          | inl u ↦ let a = K.later p i u in let b = counter-finished i in let c = K.counted i u in omega (arith, row_is, a, b, c)
          | inr v ↦ let a = K.never p i v in omega (arith, row_is, a)
        ]

    module _ (after_waits : List ℕ) (waits_length : length after_waits ≡ length waits) (row : List ℕ)
        (row_is : row ≡ get_or rows p [])
        (lost : (i : ℕ) → slice_index after_waits i + times i row ≡ slice_index waits i)
        (after : List ℕ) (after_length : length after ≡ 2 * length sets) (after_tree : IsTree after (length sets))
        (after_leaves : (i : ℕ) → i < length sets → leaf after (length sets) i ≡ (if nat_lt 0 (times i row) && (slice_index after_waits i == 0) then i else leaf tree (length sets) i)) where
      row_times : (i : ℕ) → i < length sets → times i row ≡ times p (edges_into sets i)
      row_times i u = ap (times i) row_is ∙ K.later p i u

      -- a later end is waiting
      later_waits : (i : ℕ) → i < length sets → 0 < times i row → (i ≡ p → ⊥) × (mark_at marks i ≡ Waiting)
      later_waits i u t =
          let e = row_times i u in
          let edge = edge-is sets i p (times-positive p (edges_into sets i) (omega (arith, e, t))) in (
            (λ q. let a = edge.0 in omega (arith, q, a)),
            by_mark (mark_at marks i) refl (λ n. let d = K.in_order i u n p edge.0 edge.1 in cc (d, started)),
          )
        where
          by_mark : (m : Mark) → mark_at marks i ≡ m → ((mark_at marks i ≡ Waiting → ⊥) → ⊥) → mark_at marks i ≡ Waiting
          by_mark Waiting e n = e
          by_mark Started e n = absurd (n (λ w. cc))
          by_mark Done e n = absurd (n (λ w. cc))

      abbrev shown_now : ℕ → ℕ
      shown_now i = shown (is_waiting_mark (mark_at (set marks p Done) i) && (slice_index after_waits i == 0)) i

      abbrev gone : ℕ → Bool
      gone i = slice_index after_waits i == 0

      -- where i has lost an edge
      with_row : (i : ℕ) → i < length sets → 0 < times i row → (cond (gone i) i (leaf tree (length sets) i)) ≡ shown_now i
      with_row i u t =
          let w = later_waits i u t in
          let still : mark_at (set marks p Done) i ≡ Waiting = mark-other marks p Done i w.0 ∙ w.1 in
          elim (cases_Bool (gone i)) [
            | inl z ↦ cond-true (gone i) i (leaf tree (length sets) i) z ∙ sym (ap₂ (λ m b. shown (is_waiting_mark m && b) i) still z)
            | inr z ↦
                let before = lost i in
                let more = eqb-ne (slice_index waits i) (omega (arith, before, t)) in
                cond-false (gone i) i (leaf tree (length sets) i) z
                ∙ (K.leaves i u
                ∙ (ap₂ (λ m b. shown (is_waiting_mark m && b) i) w.1 more
                ∙ sym (ap₂ (λ m b. shown (is_waiting_mark m && b) i) still z)))
          ]
        where
          eqb-ne : (n : ℕ) → 0 < n → (n == 0) ≡ false
          eqb-ne n l = ne_eqb n 0 (λ e. omega arith)

      -- where it has not
      without_row : (i : ℕ) → i < length sets → times i row ≡ 0 → leaf tree (length sets) i ≡ shown_now i
      without_row i u z =
          let before = lost i in
          let same : slice_index waits i ≡ slice_index after_waits i = omega (arith, before, z) in
          K.leaves i u
          ∙ (ap (λ w. shown (is_waiting_mark (mark_at marks i) && (w == 0)) i) same
          ∙ mark-cases (λ x y. shown (is_waiting_mark (mark_at marks x) && (slice_index after_waits i == 0)) i
          ≡ shown (is_waiting_mark y && (slice_index after_waits i == 0)) i) marks p Done
          (in_marks p (below p started))
          (ap (λ m. shown (is_waiting_mark m && (slice_index after_waits i == 0)) i) started) (λ x d. refl) i)

      pub finish_keeps : IsGraph sets (set marks p Done) after_waits rows after
      finish_keeps = record {
        few = K.few;
        marks_length = length-set marks p Done ∙ K.marks_length;
        waits_length = waits_length ∙ K.waits_length;
        rows_length = K.rows_length;
        tree_length = after_length;
        in_order = λ i u n j v c. mark-cases (λ x y. (mark_at marks x ≡ Done) ⊎ (x ≡ p) → y ≡ Done) marks p Done
            (in_marks p (below p started)) (λ h. refl) (λ x d h. elim h [ inl e ↦ e | inr e ↦ absurd (d e) ]) j
            (elim (cases_eq i p) [
              | inl e ↦ inl (before p started j (subst (λ x. j < x) e v) (subst (λ x. conflicts (set_at sets j) (set_at sets x) ≡ true) e c))
              | inr d ↦ inl (K.in_order i u (λ w. n (mark-other marks p Done i d ∙ w)) j v c)
            ]);
        counted = λ i u. let a = lost i in let b = row_times i u in let c = counter-finished i in let d = K.counted i u in omega (arith, a, b, c, d);
        later = K.later;
        never = K.never;
        is_tree = after_tree;
        leaves = λ i u. after_leaves i u ∙ elim (cases_lt 0 (times i row)) [
          | inl t ↦ ap (λ b. cond (b && gone i) i (leaf tree (length sets) i)) (lt-ltb 0 (times i row) t) ∙ with_row i u t
          | inr z ↦ ap (λ b. cond (b && gone i) i (leaf tree (length sets) i)) (le-ltb 0 (times i row) z) ∙ without_row i u (omega arith)
        ];
      }

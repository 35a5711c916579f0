-- One position more has its start.
use Rattle.std.proofs.Common.{◌≡◌, ℕ, ◌+◌, ◌*◌, ◌<◌, ◌≤◌, ◌↔◌, true, false, inl, inr, List, [], ◌∷◌, ◌++◌, length, get_or, All, BTreeMap, sym, ap, ◌∙◌, arith, subst, max}
use Rattle.std.specs.Prelude.{slice_index}
use Rattle.std.proofs.lemmas.Bool.{cases_eq}
use Rattle.std.proofs.lemmas.List.{get_or-map, get_or_push, get_or_append_left, length_push}
use Rattle.sol_base.specs.declared.key.Key.{Key}
use Rattle.admission.specs.declared.chosen.Chosen.{Chosen}
use Rattle.block_shape.specs.declared.measure.Measure.{Measure}
use Rattle.block_shape.specs.Starts.{length_by, length_at, locks_at, end_at, HaveEnded, AllEndBy}
use Rattle.block_shape.specs.Ends.{end_of, held_until, locks_as, raised, Ends}
use Rattle.block_shape.proofs.Laws.{Ends-none, Ends-same, Ends-next, start_is}

-- the most that one counts
abbrev pub most : ℕ
most = 4294967295

-- the first positions have their starts
pub record Passed (measure : Measure) (order : List Chosen) (starts : List ℕ) (written read : BTreeMap Key ℕ) (longest i : ℕ) : Type 0 where
  pub long : length starts ≡ i
  pub writers : Ends true (locks_at order) (end_at measure order starts) i written
  pub readers : Ends false (locks_at order) (end_at measure order starts) i read
  pub earliest : (m : ℕ) → m < i → (time : ℕ) → (slice_index starts m ≤ time) ↔ HaveEnded measure order starts m time
  pub greatest : (time : ℕ) → (longest ≤ time) ↔ AllEndBy measure order starts i time
  pub bounded : (j : ℕ) → j < i → end_at measure order starts j ≤ i * most

pub Passed-none : (measure : Measure) (order : List Chosen) (starts : List ℕ) (written read : BTreeMap Key ℕ)
    → starts ≡ [] → written.entries ≡ [] → read.entries ≡ [] → Passed measure order starts written read 0 0
Passed-none measure order starts written read s w r = record {
  long = ap length s;
  writers = Ends-none true (locks_at order) (end_at measure order starts) written w;
  readers = Ends-none false (locks_at order) (end_at measure order starts) read r;
  earliest = λ m l. absurd (omega (arith, l));
  greatest = λ time. ((λ a j l. absurd (omega (arith, l))), (λ all. omega arith));
  bounded = λ j l. absurd (omega (arith, l));
}

module _ (measure : Measure) (order : List Chosen) (starts : List ℕ) (written read : BTreeMap Key ℕ) (longest i : ℕ) (P : Passed measure order starts written read longest i) (start : ℕ)
    (above : All (λ lock. held_until written read lock ≤ start) (locks_at order i)) (least : (time : ℕ) → All (λ lock. held_until written read lock ≤ time) (locks_at order i) → start ≤ time) where
  is : (time : ℕ) → (start ≤ time) ↔ HaveEnded measure order starts i time
  is = start_is (locks_at order) (end_at measure order starts) i written read P.writers P.readers start above least

  pub start_bounded : start ≤ i * most
  start_bounded = (is (i * most)).1 (λ j l h. P.bounded j l)

  module _ (next : List ℕ) (pushed : next ≡ starts ++ start ∷ []) (end : ℕ) (ends : end ≡ start + length_at measure order i) (short : length_at measure order i ≤ most)
      (written' read' : BTreeMap Key ℕ)
      (writes : (key : Key) → end_of written' key ≡ raised (locks_as true (locks_at order i) key) end (end_of written key))
      (reads : (key : Key) → end_of read' key ≡ raised (locks_as false (locks_at order i) key) end (end_of read key)) where
    old : (j : ℕ) → j < i → slice_index next j ≡ slice_index starts j
    old j l = ap (λ (xs : List ℕ). slice_index xs j) pushed ∙ get_or_append_left starts (start ∷ []) 0 j (let e = P.long in omega (arith, e, l))

    new : slice_index next i ≡ start
    new = ap (λ (xs : List ℕ). slice_index xs i) pushed ∙ get_or_push starts start 0 i P.long

    same : (j : ℕ) → j < i → end_at measure order starts j ≡ end_at measure order next j
    same j l = ap (λ n. n + length_at measure order j) (sym (old j l))

    last : end ≡ end_at measure order next i
    last = ends ∙ ap (λ n. n + length_at measure order i) (sym new)

    moved : (m : ℕ) → m ≤ i → (time : ℕ) → HaveEnded measure order starts m time → HaveEnded measure order next m time
    moved m l time all = λ j k h. subst (λ n. n ≤ time) (same j (omega (arith, l, k))) (all j k h)

    back : (m : ℕ) → m ≤ i → (time : ℕ) → HaveEnded measure order next m time → HaveEnded measure order starts m time
    back m l time all = λ j k h. subst (λ n. n ≤ time) (sym (same j (omega (arith, l, k)))) (all j k h)

    earliest_now : (m : ℕ) → m < i + 1 → (time : ℕ) → (slice_index next m ≤ time) ↔ HaveEnded measure order next m time
    earliest_now m l time =
        elim (cases_eq m i) [
          | inl e ↦ subst (λ k. (slice_index next k ≤ time) ↔ HaveEnded measure order next k time) (sym e) (
            (λ a. moved i (omega arith) time ((is time).0 (subst (λ n. n ≤ time) new a))),
            (λ all. subst (λ n. n ≤ time) (sym new) ((is time).1 (back i (omega arith) time all))),
          )
          | inr d ↦ let under : m < i = omega (arith, l, d) in (
            (λ a. moved m (omega (arith, under)) time ((P.earliest m under time).0 (subst (λ n. n ≤ time) (old m under) a))),
            (λ all. subst (λ n. n ≤ time) (sym (old m under)) ((P.earliest m under time).1 (back m (omega (arith, under)) time all))),
          )
        ]

    bounded_now : (j : ℕ) → j < i + 1 → end_at measure order next j ≤ (i + 1) * most
    bounded_now j l =
        elim (cases_eq j i) [
          | inl e ↦ subst (λ k. end_at measure order next k ≤ (i + 1) * most) (sym e) (let a = last in let b = start_bounded in omega (arith, a, b, ends, short))
          | inr d ↦ let under : j < i = omega (arith, l, d) in let a = P.bounded j under in let b = same j under in omega (arith, a, b)
        ]

    greatest_now : (time : ℕ) → (max end longest ≤ time) ↔ AllEndBy measure order next (i + 1) time
    greatest_now time = (
      (λ a j l.
          elim (cases_eq j i) [
            | inl e ↦ subst (λ k. end_at measure order next k ≤ time) (sym e) (let b = last in omega (arith, a, b))
            | inr d ↦ let under : j < i = omega (arith, l, d) in let b = (P.greatest time).0 (omega (arith, a)) j under in let c = same j under in omega (arith, b, c)
          ]),
      (λ all.
          let b = (P.greatest time).1 (λ j l. subst (λ n. n ≤ time) (sym (same j l)) (all j (omega (arith, l)))) in
          let d = all i (omega arith) in
          let e = last in
          omega (arith, b, d, e)),
    )

    pub Passed-next : Passed measure order next written' read' (max end longest) (i + 1)
    Passed-next = record {
      long = ap length pushed ∙ (length_push starts start ∙ ap (λ n. n + 1) P.long);
      writers = Ends-next true (locks_at order) (end_at measure order next) i written written'
          (λ key. writes key ∙ ap (λ n. raised (locks_as true (locks_at order i) key) n (end_of written key)) last)
          (Ends-same true (locks_at order) (end_at measure order starts) (end_at measure order next) i written same P.writers);
      readers = Ends-next false (locks_at order) (end_at measure order next) i read read'
          (λ key. reads key ∙ ap (λ n. raised (locks_as false (locks_at order i) key) n (end_of read key)) last)
          (Ends-same false (locks_at order) (end_at measure order starts) (end_at measure order next) i read same P.readers);
      earliest = earliest_now;
      greatest = greatest_now;
      bounded = bounded_now;
    }

-- what stands at a place of the order
pub locks_here : (order : List Chosen) (i : ℕ) (chosen : Chosen) → i < length order → chosen ≡ get_or order i chosen → chosen.locks ≡ locks_at order i
locks_here order i chosen l is = ap (λ (one : Chosen). one.locks) is ∙ sym (get_or-map (λ (one : Chosen). one.locks) order i chosen [] l)

pub length_here : (measure : Measure) (order : List Chosen) (i : ℕ) (chosen : Chosen) → i < length order → chosen ≡ get_or order i chosen → length_by measure chosen ≡ length_at measure order i
length_here measure order i chosen l is = ap (λ (one : Chosen). length_by measure one) is ∙ sym (get_or-map (λ (one : Chosen). length_by measure one) order i chosen 0 l)

-- What the chains say of positions.
use Rattle.std.proofs.Common.{◌≡◌, ℕ, zero, suc, ◌<◌, ◌≤◌, ◌==◌, Bool, true, false, not, ◌&&◌, ◌||◌, ◌⊎◌, cond, inl, inr, List, [], ◌∷◌, ◌++◌, length, get_or, Option, Some, None, refl, sym, ◌∙◌, ap, subst, arith, eqb-true, eq-eqb}
use Rattle.std.specs.Prelude.{option_to_list}
use Rattle.std.specs.List.{list_any, flat_map}
use Rattle.std.proofs.lemmas.Bool.{false≢true, both_ways, cases_Bool, cases_lt, cases_eq, or_cases, or_left, or_right, and_parts, and_from, not_from_false, false_from_ne_true}
use Rattle.lock_table.specs.declared.locks.NumberedLock.{NumberedLock}
use Rattle.lock_table.specs.Numbers.{meets, conflicts}
use Rattle.prio_graph.specs.declared.mark.Mark.{Mark}
use Rattle.prio_graph.specs.declared.mark.Mark.TheVariants.{Waiting, Started, Done}
use Rattle.prio_graph.specs.Ready.{set_at, mark_at, EarlierDone, is_done_mark}
use Rattle.prio_graph.specs.Chains.{last_writer, readers_since, awaited, edges_into, counter, StartedInOrder}
use Rattle.lock_chains.specs.Passing.{writes_number, reads_number}
use Rattle.prio_graph.specs.Laws.{CountersTell}
use Rattle.prio_graph.proofs.Finding.{any_at, any_place, any-append, any-flat_map, has, count-zero, count-none}
use Rattle.prio_graph.proofs.Once.{has-once}
use Rattle.lock_chains.proofs.Passing.{no_lock}

-- two locks that meet make their sets conflict
conflict_at : (one other : List NumberedLock) (i k : ℕ) → i < length one → k < length other
    → ((get_or one i no_lock).number == (get_or other k no_lock).number) ≡ true → ((get_or one i no_lock).write || (get_or other k no_lock).write) ≡ true → conflicts one other ≡ true
conflict_at one other i k l m e w =
    let a = get_or one i no_lock in
    let b = get_or other k no_lock in
    any_at (λ x. list_any (λ y. meets x y) other) one i no_lock l (any_at (λ y. meets a y) other k no_lock m (and_from (a.number == b.number) (a.write || b.write) e w))

-- a set that writes a number, or reads it, has such a lock
write_place : (set : List NumberedLock) (n : ℕ) → writes_number set n ≡ true → (k : ℕ) × (k < length set) × (((get_or set k no_lock).number == n) ≡ true) × ((get_or set k no_lock).write ≡ true)
write_place set n h =
    let found = any_place (λ lock. (lock.number == n) && lock.write) set no_lock h in
    let parts = and_parts ((get_or set found.0 no_lock).number == n) (get_or set found.0 no_lock).write found.2 in
    (found.0, found.1, parts.0, parts.1)

read_place : (set : List NumberedLock) (n : ℕ) → reads_number set n ≡ true → (k : ℕ) × (k < length set) × (((get_or set k no_lock).number == n) ≡ true)
read_place set n h =
    let found = any_place (λ lock. (lock.number == n) && not lock.write) set no_lock h in
    let parts = and_parts ((get_or set found.0 no_lock).number == n) (not (get_or set found.0 no_lock).write) found.2 in
    (found.0, found.1, parts.0)

-- sets conflict where the first writes the number of a lock of the second
conflict-written : (one other : List NumberedLock) (k : ℕ) → k < length other → writes_number one (get_or other k no_lock).number ≡ true → conflicts one other ≡ true
conflict-written one other k l h =
    let first = write_place one (get_or other k no_lock).number h in
    conflict_at one other first.0 k first.1 l first.2 (or_left (get_or one first.0 no_lock).write (get_or other k no_lock).write first.3)

-- and where the first reads it and the lock writes
conflict-read : (one other : List NumberedLock) (k : ℕ) → k < length other
    → reads_number one (get_or other k no_lock).number ≡ true → (get_or other k no_lock).write ≡ true
    → conflicts one other ≡ true
conflict-read one other k l h w =
    let first = read_place one (get_or other k no_lock).number h in
    conflict_at one other first.0 k first.1 l first.2 (or_right (get_or one first.0 no_lock).write (get_or other k no_lock).write w)

-- sets conflict at a number that the second writes and the first has
conflict-both : (one other : List NumberedLock) (n : ℕ) → (writes_number one n ≡ true) ⊎ (reads_number one n ≡ true) → writes_number other n ≡ true → conflicts one other ≡ true
conflict-both one other n h w = by_case h
  where
    second : (k : ℕ) × (k < length other) × (((get_or other k no_lock).number == n) ≡ true) × ((get_or other k no_lock).write ≡ true)
    second = write_place other n w

    is : (get_or other second.0 no_lock).number ≡ n
    is = eqb-true (get_or other second.0 no_lock).number n second.2

    by_case : (writes_number one n ≡ true) ⊎ (reads_number one n ≡ true) → conflicts one other ≡ true
    by_case (inl t) = conflict-written one other second.0 second.1 (ap (writes_number one) is ∙ t)
    by_case (inr t) = conflict-read one other second.0 second.1 (ap (reads_number one) is ∙ t) second.3

-- where two sets conflict, there is a lock in the second whose number the first writes, or reads where the lock writes
met_at : (one other : List NumberedLock) → conflicts one other ≡ true
    → (k : ℕ) × (k < length other)
    × ((writes_number one (get_or other k no_lock).number ≡ true)
    ⊎ ((reads_number one (get_or other k no_lock).number ≡ true) × ((get_or other k no_lock).write ≡ true)))
met_at one other h =
    let first = any_place (λ a. list_any (λ b. meets a b) other) one no_lock h in
    let a = get_or one first.0 no_lock in
    let second = any_place (λ b. meets a b) other no_lock first.2 in
    let b = get_or other second.0 no_lock in
    let both = and_parts (a.number == b.number) (a.write || b.write) second.2 in
    let how : (writes_number one b.number ≡ true) ⊎ ((reads_number one b.number ≡ true) × (b.write ≡ true)) =
    elim (cases_Bool a.write) [
      | inl t ↦ inl (any_at (λ lock. (lock.number == b.number) && lock.write) one first.0 no_lock first.1 (and_from (a.number == b.number) a.write both.0 t))
      | inr f ↦ inr (
        any_at (λ lock. (lock.number == b.number) && not lock.write) one first.0 no_lock first.1 (and_from (a.number == b.number) (not a.write) both.0 (not_from_false a.write f)),
        elim (or_cases a.write b.write both.1) [ inl t ↦ absurd (both_ways a.write f t) | inr r ↦ r ],
      )
    ] in
    (second.0, second.1, how)

-- the last writer is one, and stands before
last_writer-is : (sets : List (List NumberedLock)) (i n w : ℕ) → last_writer sets i n ≡ Some w → (w < i) × (writes_number (set_at sets w) n ≡ true)
last_writer-is sets zero n w e = absurd (cc)
last_writer-is sets (suc i) n w e = by_case (writes_number (set_at sets i) n) refl e (last_writer-is sets i n w)
  where
    by_case : (b : Bool) → writes_number (set_at sets i) n ≡ b → cond b (Some i) (last_writer sets i n) ≡ Some w
        → (last_writer sets i n ≡ Some w → (w < i) × (writes_number (set_at sets w) n ≡ true))
        → (w < suc i) × (writes_number (set_at sets w) n ≡ true)
    by_case true t q rest = let same : i ≡ w = cc in (omega (arith, same), subst (λ x. writes_number (set_at sets x) n ≡ true) same t)
    by_case false f q rest = let there = rest q in (omega (arith, there.0), there.1)

-- a writer before i stands at the last one or before it
last_writer-from : (sets : List (List NumberedLock)) (i n j : ℕ) → j < i → writes_number (set_at sets j) n ≡ true → (w : ℕ) × (last_writer sets i n ≡ Some w) × (j ≤ w)
last_writer-from sets zero n j l h = absurd (omega arith)
last_writer-from sets (suc i) n j l h = by_case (writes_number (set_at sets i) n) refl (last_writer-from sets i n j)
  where
    by_case : (b : Bool) → writes_number (set_at sets i) n ≡ b
        → (j < i → writes_number (set_at sets j) n ≡ true → (w : ℕ) × (last_writer sets i n ≡ Some w) × (j ≤ w))
        → (w : ℕ) × (cond b (Some i) (last_writer sets i n) ≡ Some w) × (j ≤ w)
    by_case true t rest = (i, refl, omega arith)
    by_case false f rest =
        elim (cases_eq j i) [
          | inl e ↦ absurd (both_ways _ f (subst (λ x. writes_number (set_at sets x) n ≡ true) e h))
          | inr d ↦ rest (omega arith) h
        ]

-- a reader since is a reader, and stands before
readers_since-is : (sets : List (List NumberedLock)) (i n j : ℕ) → has j (readers_since sets i n) ≡ true → (j < i) × (reads_number (set_at sets j) n ≡ true)
readers_since-is sets zero n j h = absurd (false≢true h)
readers_since-is sets (suc i) n j h = by_case (writes_number (set_at sets i) n) (reads_number (set_at sets i) n) refl h (readers_since-is sets i n j)
  where
    by_case : (b r : Bool) → reads_number (set_at sets i) n ≡ r → has j (cond b [] (cond r (readers_since sets i n ++ i ∷ []) (readers_since sets i n))) ≡ true
        → (has j (readers_since sets i n) ≡ true → (j < i) × (reads_number (set_at sets j) n ≡ true)) → (j < suc i) × (reads_number (set_at sets j) n ≡ true)
    by_case true r t g rest = absurd (false≢true g)
    by_case false true t g rest =
        elim (or_cases (has j (readers_since sets i n)) (has j (i ∷ [])) (sym (any-append (λ x. x == j) (readers_since sets i n) (i ∷ [])) ∙ g)) [
          | inl u ↦ let there = rest u in (omega (arith, there.0), there.1)
          | inr u ↦
              elim (or_cases (i == j) false u) [
                | inl q ↦ let same = eqb-true i j q in (omega (arith, same), subst (λ x. reads_number (set_at sets x) n ≡ true) same t)
                | inr q ↦ absurd (false≢true q)
              ]
        ]
    by_case false false t g rest = let there = rest g in (omega (arith, there.0), there.1)

-- a reader that no writer follows is one of the readers since
readers_since-has : (sets : List (List NumberedLock)) (i n j : ℕ) → j < i
    → reads_number (set_at sets j) n ≡ true
    → ((m : ℕ) → j ≤ m → m < i → writes_number (set_at sets m) n ≡ false)
    → has j (readers_since sets i n) ≡ true
readers_since-has sets zero n j l h none = absurd (omega arith)
readers_since-has sets (suc i) n j l h none =
    by_case (reads_number (set_at sets i) n) refl (λ u. readers_since-has sets i n j u h (λ m a b. none m a (omega arith)))
  where
    by_case : (r : Bool) → reads_number (set_at sets i) n ≡ r → (j < i → has j (readers_since sets i n) ≡ true) → has j (readers_since sets (suc i) n) ≡ true
    by_case r t rest =
        ap (λ b. has j (cond b [] (cond (reads_number (set_at sets i) n) (readers_since sets i n ++ i ∷ []) (readers_since sets i n)))) (none i (omega arith) (omega arith))
        ∙ (ap (λ b. has j (cond b (readers_since sets i n ++ i ∷ []) (readers_since sets i n))) t ∙ inner r t rest)
      where
        inner : (r : Bool) → reads_number (set_at sets i) n ≡ r → (j < i → has j (readers_since sets i n) ≡ true) → has j (cond r (readers_since sets i n ++ i ∷ []) (readers_since sets i n)) ≡ true
        inner true u rest =
            any-append (λ x. x == j) (readers_since sets i n) (i ∷ [])
            ∙ elim (cases_eq i j) [
              | inl e ↦ or_right (has j (readers_since sets i n)) _ (or_left _ _ (eq-eqb i j e))
              | inr d ↦ or_left _ _ (rest (omega arith))
            ]
        inner false u rest =
            elim (cases_eq i j) [
              | inl e ↦ absurd (both_ways _ u (subst (λ x. reads_number (set_at sets x) n ≡ true) (sym e) h))
              | inr d ↦ rest (omega arith)
            ]

module _ (sets : List (List NumberedLock)) (i j : ℕ) where
  -- whoever a lock waits for stands before, and writes its number, or reads it where the lock writes
  awaited_cases : (lock : NumberedLock) → has j (awaited sets i lock) ≡ true
      → (j < i) × ((writes_number (set_at sets j) lock.number ≡ true)
      ⊎ ((reads_number (set_at sets j) lock.number ≡ true) × (lock.write ≡ true)))
  awaited_cases lock h =
      elim (or_cases (has j (option_to_list (last_writer sets i lock.number)))
      (has j (cond lock.write (readers_since sets i lock.number) []))
      (sym (any-append (λ x. x == j) (option_to_list (last_writer sets i lock.number))
      (cond lock.write (readers_since sets i lock.number) [])) ∙ h)) [
        | inl t ↦ last (last_writer sets i lock.number) refl t
        | inr t ↦ since lock.write refl t
      ]
    where
      last : (o : Option ℕ) → last_writer sets i lock.number ≡ o → has j (option_to_list o) ≡ true
          → (j < i) × ((writes_number (set_at sets j) lock.number ≡ true)
          ⊎ ((reads_number (set_at sets j) lock.number ≡ true) × (lock.write ≡ true)))
      last None e t = absurd (false≢true t)
      last (Some w) e t =
          elim (or_cases (w == j) false t) [
            | inl q ↦ let is = last_writer-is sets i lock.number j (e ∙ ap Some (eqb-true w j q)) in (is.0, inl is.1)
            | inr q ↦ absurd (false≢true q)
          ]

      since : (b : Bool) → lock.write ≡ b → has j (cond b (readers_since sets i lock.number) []) ≡ true
          → (j < i) × ((writes_number (set_at sets j) lock.number ≡ true)
          ⊎ ((reads_number (set_at sets j) lock.number ≡ true) × (lock.write ≡ true)))
      since true e t = let is = readers_since-is sets i lock.number j t in (is.0, inr (is.1, e))
      since false e t = absurd (false≢true t)

  -- an edge leads from an earlier conflicting position
  pub edge-is : has j (edges_into sets i) ≡ true → (j < i) × (conflicts (set_at sets j) (set_at sets i) ≡ true)
  edge-is h =
      let found = any_place (λ lock. has j (awaited sets i lock)) (set_at sets i) no_lock
      (sym (any-flat_map (λ x. x == j) (awaited sets i) (set_at sets i))
      ∙ (sym (has-once j (flat_map (awaited sets i) (set_at sets i))) ∙ h)) in
      let cases = awaited_cases (get_or (set_at sets i) found.0 no_lock) found.2 in (
        cases.0,
        elim cases.1 [
          | inl w ↦ conflict-written (set_at sets j) (set_at sets i) found.0 found.1 w
          | inr r ↦ conflict-read (set_at sets j) (set_at sets i) found.0 found.1 r.0 r.1
        ],
      )

  edge_at : (k : ℕ) → k < length (set_at sets i) → has j (awaited sets i (get_or (set_at sets i) k no_lock)) ≡ true → has j (edges_into sets i) ≡ true
  edge_at k l h = has-once j (flat_map (awaited sets i) (set_at sets i))
      ∙ (any-flat_map (λ x. x == j) (awaited sets i) (set_at sets i)
      ∙ any_at (λ lock. has j (awaited sets i lock)) (set_at sets i) k no_lock l h)

  -- an edge leads from the last writer
  edge-writer : (k : ℕ) → k < length (set_at sets i) → last_writer sets i (get_or (set_at sets i) k no_lock).number ≡ Some j → has j (edges_into sets i) ≡ true
  edge-writer k l e =
      let lock = get_or (set_at sets i) k no_lock in
      edge_at k l
      (any-append (λ x. x == j) (option_to_list (last_writer sets i lock.number)) (cond lock.write (readers_since sets i lock.number) [])
      ∙ or_left _ _ (ap (λ o. has j (option_to_list o)) e ∙ or_left _ _ (eq-eqb j j refl)))

  -- and to a writer from the readers since
  edge-reader : (k : ℕ) → k < length (set_at sets i) → (get_or (set_at sets i) k no_lock).write ≡ true
      → has j (readers_since sets i (get_or (set_at sets i) k no_lock).number) ≡ true
      → has j (edges_into sets i) ≡ true
  edge-reader k l w h =
      let lock = get_or (set_at sets i) k no_lock in
      edge_at k l
      (any-append (λ x. x == j) (option_to_list (last_writer sets i lock.number)) (cond lock.write (readers_since sets i lock.number) [])
      ∙ or_right (has j (option_to_list (last_writer sets i lock.number))) _ (ap (λ b. has j (cond b (readers_since sets i lock.number) [])) w ∙ h))

not_waiting : (m : Mark) → m ≡ Done → m ≡ Waiting → ⊥
not_waiting m e f = cc

pub done-is : (m : Mark) → not (is_done_mark m) ≡ false → m ≡ Done
done-is Waiting h = absurd (cc)
done-is Started h = absurd (cc)
done-is Done h = refl

module _ (sets : List (List NumberedLock)) (marks : List Mark) (in_order : StartedInOrder sets marks) (i : ℕ) (below : i < length sets) where
  module _ (free : counter sets marks i ≡ 0) where
    edge_done : (j : ℕ) → has j (edges_into sets i) ≡ true → mark_at marks j ≡ Done
    edge_done j h = done-is (mark_at marks j) (count-zero (λ x. not (is_done_mark (mark_at marks x))) (edges_into sets i) free j h)

    -- whoever conflicts with a done writer before i is done
    before_writer : (j w n : ℕ) → j < w → w < i → mark_at marks w ≡ Done
        → (writes_number (set_at sets j) n ≡ true) ⊎ (reads_number (set_at sets j) n ≡ true)
        → writes_number (set_at sets w) n ≡ true → mark_at marks j ≡ Done
    before_writer j w n l m d h t =
        in_order w (omega (arith, below)) (not_waiting (mark_at marks w) d) j l (conflict-both (set_at sets j) (set_at sets w) n h t)

    module _ (j k : ℕ) (l : j < i) (m : k < length (set_at sets i)) where
      abbrev lock : NumberedLock
      lock = get_or (set_at sets i) k no_lock

      writer_done : writes_number (set_at sets j) lock.number ≡ true → mark_at marks j ≡ Done
      writer_done h =
          let last = last_writer-from sets i lock.number j l h in
          let is = last_writer-is sets i lock.number last.0 last.1 in
          let done = edge_done last.0 (edge-writer sets i last.0 k m last.1) in
          elim (cases_eq j last.0) [
            | inl e ↦ subst (λ x. mark_at marks x ≡ Done) (sym e) done
            | inr d ↦ before_writer j last.0 lock.number (omega (arith, last.2)) is.0 done (inl h) is.1
          ]

      reader_done : reads_number (set_at sets j) lock.number ≡ true → lock.write ≡ true → mark_at marks j ≡ Done
      reader_done h w = by_last (last_writer sets i lock.number) refl
        where
          unfollowed : ((x : ℕ) → j ≤ x → x < i → writes_number (set_at sets x) lock.number ≡ false) → mark_at marks j ≡ Done
          unfollowed none = edge_done j (edge-reader sets i j k m w (readers_since-has sets i lock.number j l h none))

          by_last : (o : Option ℕ) → last_writer sets i lock.number ≡ o → mark_at marks j ≡ Done
          by_last None e = unfollowed (λ x a b. false_from_ne_true _ (λ t. let last = last_writer-from sets i lock.number x b t in absurd (cc (e, last.1))))
          by_last (Some v) e =
              let is = last_writer-is sets i lock.number v e in
              elim (cases_lt j v) [
                | inl u ↦ before_writer j v lock.number u is.0 (edge_done v (edge-writer sets i v k m e)) (inr h) is.1
                | inr u ↦
                    elim (cases_eq j v) [
                      | inl q ↦ edge_done j (edge-writer sets i j k m (e ∙ ap Some (sym q)))
                      | inr d ↦ unfollowed (λ x a b. false_from_ne_true _ (λ t.
                          let last = last_writer-from sets i lock.number x b t in
                          let same : v ≡ last.0 = cc (e, last.1) in
                          absurd (omega (arith, same, last.2))))
                    ]
              ]

    all_done : EarlierDone sets marks i
    all_done j l c =
        let met = met_at (set_at sets j) (set_at sets i) c in
        elim met.2 [ inl w ↦ writer_done j met.0 l met.1 w | inr r ↦ reader_done j met.0 l met.1 r.0 r.1 ]

pub counters_tell : CountersTell
counters_tell sets marks in_order i below = (
  (λ free. all_done sets marks in_order i below free),
  (λ done. count-none (λ j. not (is_done_mark (mark_at marks j))) (edges_into sets i) (λ j h. let edge = edge-is sets i j h in ap (λ m. not (is_done_mark m)) (done j edge.0 edge.1))),
)

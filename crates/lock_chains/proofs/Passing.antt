-- A position passes the chains, one lock after the other.
use Rattle.std.proofs.Common.{◌≡◌, ◌≢◌, ℕ, ◌+◌, ◌<◌, ◌==◌, Bool, true, false, not, ◌&&◌, ◌||◌, cond, inl, inr, List, [], ◌∷◌, ◌++◌, length, get_or, set, drop, All, Option, Some, None, refl, sym, ◌∙◌, ap, ap₂, subst, arith, eq-eqb, ne_eqb, get_or-set_same, get_or-set_other, length-drop}
use Rattle.std.specs.List.{list_any}
use Rattle.std.proofs.lemmas.Bool.{cases_eq, cond_both, cond-true, cond-false, and_left, and_right, or_from}
use Rattle.std.proofs.lemmas.List.{drop_more, get_or-drop, get_or_default}
use Rattle.std.proofs.lemmas.List.Elements.{All-head, All-tail}
use Rattle.lock_table.specs.declared.locks.NumberedLock.{NumberedLock}
use Rattle.lock_table.specs.Numbers.{EachOnce}
use Rattle.lock_chains.specs.Passing.{writes_number, reads_number}
use Rattle.lock_chains.specs.Passing.{writer_after, readers_after}

abbrev pub no_lock : NumberedLock
no_lock = record { number = 0; write = false }

-- the locks behind one are on other numbers
later_differ : (locks : List NumberedLock) (k : ℕ) → EachOnce locks → k < length locks → All (λ y. (get_or locks k no_lock).number ≢ y.number) (drop (k + 1) locks)
later_differ locks k once l m d u =
    let far : k + 1 + m < length locks = let e = length-drop (k + 1) locks in omega (arith, e, u) in
    rw (get_or-drop (k + 1) locks m d, get_or_default locks k no_lock d l) (once k (k + 1 + m) d (omega arith) far)

-- a number that no lock has passes no test on it
absent : (test : NumberedLock → Bool) (n : ℕ) (locks : List NumberedLock) → All (λ y. n ≢ y.number) locks → list_any (λ y. (y.number == n) && test y) locks ≡ false
absent test n [] a = refl
absent test n (y ∷ ys) a =
    or_from _ _ (and_left (y.number == n) (test y) (ne_eqb y.number n (λ e. All-head (λ y. n ≢ y.number) y ys a (sym e)))) (absent test n ys (All-tail (λ y. n ≢ y.number) y ys a))

module _ (x : NumberedLock) (rest : List NumberedLock) (position n : ℕ) where
  no_match : (x.number ≡ n → ⊥) → (writes_number (x ∷ rest) n ≡ writes_number rest n) × (reads_number (x ∷ rest) n ≡ reads_number rest n)
  no_match d = (ap (λ b. (b && x.write) || writes_number rest n) (ne_eqb x.number n d), ap (λ b. (b && not x.write) || reads_number rest n) (ne_eqb x.number n d))

  -- a lock that writes
  writer_written : (last : List (Option ℕ)) → x.number < length last → x.write ≡ true
      → writer_after rest position n (get_or (set last x.number (Some position)) n None) ≡ writer_after (x ∷ rest) position n (get_or last n None)
  writer_written last l w =
      elim (cases_eq x.number n) [
        | inl e ↦
            let put : get_or (set last x.number (Some position)) n None
            ≡ Some position = subst (λ k. get_or (set last x.number (Some position)) k None ≡ Some position)
            e (get_or-set_same last x.number (Some position) None l) in
            let here : writes_number (x ∷ rest) n ≡ true = ap₂ (λ a b. (a && b) || writes_number rest n) (eq-eqb x.number n e) w in
            ap (writer_after rest position n) put
            ∙ (cond_both (writes_number rest n) (Some position) (Some position) (λ v. v ≡ Some position) (λ t. refl) (λ f. refl)
            ∙ sym (cond-true (writes_number (x ∷ rest) n) (Some position) (get_or last n None) here))
        | inr d ↦
            ap₂ (λ b v. cond b (Some position) v) (sym (no_match d).0) (get_or-set_other last x.number n (Some position) None (λ e. d (sym e)))
      ]

  writer_read : (v : Option ℕ) → x.write ≡ false → writer_after rest position n v ≡ writer_after (x ∷ rest) position n v
  writer_read v w = ap (λ b. cond (b || writes_number rest n) (Some position) v) (sym (and_right (x.number == n) x.write w))

  readers_written : (readers : List (List ℕ)) → x.number < length readers → x.write ≡ true → All (λ y. x.number ≢ y.number) rest
      → readers_after rest position n (get_or (set readers x.number []) n []) ≡ readers_after (x ∷ rest) position n (get_or readers n [])
  readers_written readers l w differ =
      elim (cases_eq x.number n) [
        | inl e ↦
            let put : get_or (set readers x.number []) n [] ≡ [] = subst (λ k. get_or (set readers x.number []) k [] ≡ []) e (get_or-set_same readers x.number [] [] l) in
            let here : writes_number (x ∷ rest) n ≡ true = ap₂ (λ a b. (a && b) || writes_number rest n) (eq-eqb x.number n e) w in
            let none = subst (λ k. reads_number rest k ≡ false) e (absent (λ y. not y.write) x.number rest differ) in
            ap (readers_after rest position n) put
            ∙ (cond_both (writes_number rest n) [] (cond (reads_number rest n) ([] ++ position ∷ []) []) (λ v. v ≡ []) (λ t. refl) (λ f. cond-false (reads_number rest n) ([] ++ position ∷ []) [] none)
            ∙ sym (cond-true (writes_number (x ∷ rest) n) [] _ here))
        | inr d ↦
            ap (readers_after rest position n) (get_or-set_other readers x.number n [] [] (λ e. d (sym e)))
            ∙ ap₂ (λ b c. cond b [] (cond c (get_or readers n [] ++ position ∷ []) (get_or readers n []))) (sym (no_match d).0) (sym (no_match d).1)
      ]

  readers_read : (readers : List (List ℕ)) → x.number < length readers → x.write ≡ false → All (λ y. x.number ≢ y.number) rest
      → readers_after rest position n (get_or (set readers x.number (get_or readers x.number [] ++ position ∷ [])) n []) ≡ readers_after (x ∷ rest) position n (get_or readers n [])
  readers_read readers l w differ =
      elim (cases_eq x.number n) [
        | inl e ↦
            let row : List ℕ = get_or readers x.number [] ++ position ∷ [] in
            let put : get_or (set readers x.number row) n [] ≡ get_or readers n [] ++ position ∷ [] =
            subst (λ k. get_or (set readers x.number row) k [] ≡ get_or readers k [] ++ position ∷ []) e (get_or-set_same readers x.number row [] l) in
            let no_writer = subst (λ k. writes_number rest k ≡ false) e (absent (λ y. y.write) x.number rest differ) in
            let no_reader = subst (λ k. reads_number rest k ≡ false) e (absent (λ y. not y.write) x.number rest differ) in
            let unwritten : writes_number (x ∷ rest) n ≡ false = or_from _ _ (and_right (x.number == n) x.write w) no_writer in
            let read : reads_number (x ∷ rest) n ≡ true = ap₂ (λ a b. (a && not b) || reads_number rest n) (eq-eqb x.number n e) w in
            ap (readers_after rest position n) put
            ∙ (cond-false (writes_number rest n) [] _ no_writer
            ∙ (cond-false (reads_number rest n) _ _ no_reader
            ∙ (sym (cond-true (reads_number (x ∷ rest) n) (get_or readers n [] ++ position ∷ []) (get_or readers n []) read)
            ∙ sym (cond-false (writes_number (x ∷ rest) n) [] _ unwritten))))
        | inr d ↦
            ap (readers_after rest position n) (get_or-set_other readers x.number n _ [] (λ e. d (sym e)))
            ∙ ap₂ (λ b c. cond b [] (cond c (get_or readers n [] ++ position ∷ []) (get_or readers n []))) (sym (no_match d).0) (sym (no_match d).1)
      ]

-- what is left to do after a step is what was left before it
pub record Steps (locks : List NumberedLock) (k position : ℕ) (last last' : List (Option ℕ)) (rows rows' : List (List ℕ)) : Type 0 where
  pub writers : (n : ℕ) → writer_after (drop (k + 1) locks) position n (get_or last' n None) ≡ writer_after (drop k locks) position n (get_or last n None)
  pub readers : (n : ℕ) → readers_after (drop (k + 1) locks) position n (get_or rows' n []) ≡ readers_after (drop k locks) position n (get_or rows n [])

module _ (locks : List NumberedLock) (k position : ℕ) (last last' : List (Option ℕ)) (readers readers' : List (List ℕ)) (once : EachOnce locks) (l : k < length locks) where
  abbrev x : NumberedLock
  x = get_or locks k no_lock

  abbrev rest : List NumberedLock
  rest = drop (k + 1) locks

  opened : drop k locks ≡ x ∷ rest
  opened = drop_more locks k no_lock l

  pub step_written : x.number < length last → x.number < length readers → x.write ≡ true
      → last' ≡ set last x.number (Some position) → readers' ≡ set readers x.number []
      → Steps locks k position last last' readers readers'
  step_written a b w e f = record {
    writers = λ n. ap (λ ls. writer_after rest position n (get_or ls n None)) e ∙ (writer_written x rest position n last a w ∙ sym (ap (λ ls. writer_after ls position n (get_or last n None)) opened));
    readers = λ n. ap (λ rs. readers_after rest position n (get_or rs n [])) f
        ∙ (readers_written x rest position n readers b w (later_differ locks k once l)
        ∙ sym (ap (λ ls. readers_after ls position n (get_or readers n [])) opened));
  }

  pub step_read : x.number < length readers → x.write ≡ false → last' ≡ last
      → readers' ≡ set readers x.number (get_or readers x.number [] ++ position ∷ [])
      → Steps locks k position last last' readers readers'
  step_read b w e f = record {
    writers = λ n. ap (λ ls. writer_after rest position n (get_or ls n None)) e
        ∙ (writer_read x rest position n (get_or last n None) w
        ∙ sym (ap (λ ls. writer_after ls position n (get_or last n None)) opened));
    readers = λ n. ap (λ rs. readers_after rest position n (get_or rs n [])) f
        ∙ (readers_read x rest position n readers b w (later_differ locks k once l)
        ∙ sym (ap (λ ls. readers_after ls position n (get_or readers n [])) opened));
  }

-- How many positions wait at each key.
use Rattle.std.proofs.Common.{◌≡◌, ℕ, zero, suc, ◌+◌, ◌-◌, ◌^◌, ◌<◌, ◌≤◌, Bool, true, false, ◌||◌, ◌&&◌, cond, inl, inr, List, [], ◌∷◌, length, take, get_or, Option, Some, BTreeMap, refl, sym, ap, ◌∙◌, arith, subst, unwrap_or, min, add-one}
use Rattle.std.specs.Prelude.{nat_lt}
use Rattle.std.specs.Cmp.{both_ways as same_answer}
use Rattle.std.specs.List.{list_any}
use Rattle.std.specs.BTreeMap.{get, is_at}
use Rattle.std.proofs.lemmas.Bool.{both_ways, cases_eq, or_cases, or_left, or_right, false≢true, ltb-true, lt-ltb, le-ltb}
use Rattle.std.proofs.lemmas.List.Folds.{list_any_more}
use Rattle.sol_base.specs.declared.key.Key.{Key}
use Rattle.sol_base.specs.declared.lock.Lock.{Lock}
use Rattle.sol_base.specs.Keys.{key_cmp, same_key}
use Rattle.sol_base.proofs.KeyLaws.{same_cmp, same_key-true}
use Rattle.admission.specs.declared.chosen.Chosen.{Chosen}
use Rattle.block_shape.specs.declared.waits.Wait.{Wait}
use Rattle.block_shape.specs.Starts.{locks_at}
use Rattle.block_shape.specs.Ends.{end_of, held_until, locks_as, raised, Ends}
use Rattle.block_shape.specs.Meets.{is_met}
use Rattle.block_shape.specs.Waits.{meets_earlier, waits, waits_before, wait_of, counted, counted_if, is_held_at}
use Rattle.block_shape.proofs.Laws.{no_lock, max_parts, max_from, met_as, as_met, Ends-none, Ends-next}

-- ---- one lock more

-- a place counted twice is counted once
counted_again : (before : Wait) (place : ℕ) → counted (counted before place) place ≡ counted before place
counted_again before place = by_case (nat_lt before.place place) refl
  where
    by_case : (b : Bool) → nat_lt before.place place ≡ b
        → counted (cond b (record { count = min (before.count + 1) (2 ^ 32 - 1); place = place }) before) place
        ≡ cond b (record { count = min (before.count + 1) (2 ^ 32 - 1); place = place }) before
    by_case true t = rw (le-ltb place place (omega arith)) refl
    by_case false f = rw f refl

counted_more : (was here : Bool) (place : ℕ) (before : Wait) → counted_if here place (counted_if was place before) ≡ counted_if (was || here) place before
counted_more true true place before = counted_again before place
counted_more true false place before = refl
counted_more false true place before = refl
counted_more false false place before = refl

module _ (held : Lock → Bool) (locks : List Lock) (i : ℕ) (l : i < length locks) (place : ℕ) (first waits next : BTreeMap Key Wait)
    (kept : (key : Key) → wait_of waits key ≡ counted_if (list_any (λ x. held x && same_key x.key key) (take i locks)) place (wait_of first key)) where
  abbrev lock : Lock
  lock = get_or locks i no_lock

  more : (key : Key) → wait_of next key
      ≡ counted_if (held lock && same_key lock.key key) place (wait_of waits key)
      → wait_of next key ≡ counted_if (list_any (λ x. held x && same_key x.key key) (take (i + 1) locks)) place
      (wait_of first key)
  more key step =
      step ∙ (ap (counted_if (held lock && same_key lock.key key) place) (kept key)
      ∙ (counted_more (list_any (λ x. held x && same_key x.key key) (take i locks)) (held lock && same_key lock.key key) place (wait_of first key)
      ∙ ap (λ b. counted_if b place (wait_of first key)) (sym (list_any_more (λ x. held x && same_key x.key key) locks i no_lock l))))

  -- a lock that is held up counts at its key
  pub noted : held lock ≡ true → (latest : Wait) → latest ≡ counted (wait_of waits lock.key) place
      → ((key : Key) → get key_cmp next key
      ≡ cond (is_at (key_cmp lock.key) key) (Some latest) (get key_cmp waits key))
      → (key : Key) → wait_of next key ≡ counted_if (list_any (λ x. held x && same_key x.key key) (take (i + 1) locks)) place (wait_of first key)
  noted so latest is puts key = more key
      (ap (λ (o : Option Wait). unwrap_or o (record { count = 0; place = 0 })) (puts key)
      ∙ (by_case (same_key lock.key key) refl
      ∙ ap (λ b. counted_if (b && same_key lock.key key) place (wait_of waits key)) (sym so)))
    where
      by_case : (b : Bool) → same_key lock.key key ≡ b
          → unwrap_or (cond (is_at (key_cmp lock.key) key) (Some latest) (get key_cmp waits key))
          (record { count = 0; place = 0 }) ≡ counted_if (same_key lock.key key) place (wait_of waits key)
      by_case true t = rw (same_cmp lock.key key, t) (is ∙ ap (λ k. counted (wait_of waits k) place) (same_key-true lock.key key t))
      by_case false f = rw (same_cmp lock.key key, f) refl

  -- and another does not
  pub unnoted : held lock ≡ false → next ≡ waits → (key : Key) → wait_of next key ≡ counted_if (list_any (λ x. held x && same_key x.key key) (take (i + 1) locks)) place (wait_of first key)
  unnoted other same key = more key (ap (λ (m : BTreeMap Key Wait). wait_of m key) same ∙ ap (λ b. counted_if (b && same_key lock.key key) place (wait_of waits key)) (sym other))

-- ---- a lock that is held up meets an earlier one

met_before : (order : List Chosen) (lock : Lock) (i : ℕ) → meets_earlier order lock i ≡ true → (j : ℕ) × (j < i) × (is_met (locks_at order j) lock ≡ true)
met_before order lock zero h = absurd (false≢true h)
met_before order lock (suc i) h =
    elim (or_cases (meets_earlier order lock i) (is_met (locks_at order i) lock) h) [
      | inl t ↦ let found = met_before order lock i t in (found.0, omega (arith, found.1), found.2)
      | inr r ↦ (i, omega arith, r)
    ]

before_met : (order : List Chosen) (lock : Lock) (i j : ℕ) → j < i → is_met (locks_at order j) lock ≡ true → meets_earlier order lock i ≡ true
before_met order lock zero j l h = absurd (omega (arith, l))
before_met order lock (suc i) j l h =
    elim (cases_eq j i) [
      | inl e ↦ or_right (meets_earlier order lock i) (is_met (locks_at order i) lock) (subst (λ k. is_met (locks_at order k) lock ≡ true) e h)
      | inr d ↦ or_left (meets_earlier order lock i) (is_met (locks_at order i) lock) (before_met order lock i j (omega (arith, l, d)) h)
    ]

abbrev one : ℕ → ℕ
one j = 1

module _ (order : List Chosen) (i : ℕ) (written read : BTreeMap Key ℕ) (W : Ends true (locks_at order) one i written) (R : Ends false (locks_at order) one i read) (lock : Lock) where
  -- one that is not is held until 0
  not_held : (meets_earlier order lock i ≡ true → ⊥) → held_until written read lock ≤ 0
  not_held none = max_from lock.write (end_of written lock.key) (end_of read lock.key) 0
      ((W lock.key 0).1 (λ j m h. absurd (none (before_met order lock i j m (as_met (locks_at order j) lock true (λ f. absurd (false≢true (sym f))) h)))))
      (λ w. (R lock.key 0).1 (λ j m h. absurd (none (before_met order lock i j m (as_met (locks_at order j) lock false (λ f. w) h)))))

  held : meets_earlier order lock i ≡ true → 1 ≤ held_until written read lock
  held h =
      let found = met_before order lock i h in
      let until = held_until written read lock in
      let parts = max_parts lock.write (end_of written lock.key) (end_of read lock.key) until (omega arith) in
      elim (met_as (locks_at order found.0) lock found.2) [
        | inl w ↦ (W lock.key until).0 parts.0 found.0 found.1 w
        | inr r ↦ (R lock.key until).0 (parts.1 r.0) found.0 found.1 r.1
      ]

  pub held_is : nat_lt 0 (held_until written read lock) ≡ meets_earlier order lock i
  held_is = same_answer (nat_lt 0 (held_until written read lock)) (meets_earlier order lock i)
      (λ t. by_case (meets_earlier order lock i) refl (ltb-true 0 (held_until written read lock) t))
      (λ t. let h = held t in lt-ltb 0 (held_until written read lock) (omega (arith, h)))
    where
      by_case : (b : Bool) → meets_earlier order lock i ≡ b → 0 < held_until written read lock → b ≡ true
      by_case true t l = refl
      by_case false f l = let z = not_held (λ t. both_ways _ f t) in absurd (omega (arith, z, l))

-- a test that answers alike finds alike
any_same : (p q : Lock → Bool) (locks : List Lock) → ((lock : Lock) → p lock ≡ q lock) → list_any p locks ≡ list_any q locks
any_same p q [] same = refl
any_same p q (lock ∷ locks) same = rw (same lock, any_same p q locks same) refl

-- ---- the counts, one position after the other

-- the counts of the positions before i
pub record Counted (order : List Chosen) (waits : BTreeMap Key Wait) (written read : BTreeMap Key ℕ) (i : ℕ) : Type 0 where
  pub writers : Ends true (locks_at order) one i written
  pub readers : Ends false (locks_at order) one i read
  pub counts : (key : Key) → (wait_of waits key).count ≡ waits_before order key i
  pub places : (key : Key) → (wait_of waits key).place ≤ i

one_more : (b : Bool) (n i : ℕ) → n ≤ i → n + cond b 1 0 ≤ suc i
one_more true n i l = omega (arith, l)
one_more false n i l = omega (arith, l)

few_before : (order : List Chosen) (key : Key) (i : ℕ) → waits_before order key i ≤ i
few_before order key zero = omega arith
few_before order key (suc i) = one_more (waits order key i) (waits_before order key i) i (few_before order key i)

module _ (order : List Chosen) (counts : BTreeMap Key Wait) (written read : BTreeMap Key ℕ) (i : ℕ) (C : Counted order counts written read i) (few : i < 2 ^ 32 - 1)
    (next : BTreeMap Key Wait) (counts_now : (key : Key) → wait_of next key ≡ counted_if (is_held_at written read (locks_at order i) key) (i + 1) (wait_of counts key)) where
  waits_is : (key : Key) → is_held_at written read (locks_at order i) key ≡ waits order key i
  waits_is key = any_same (λ lock. nat_lt 0 (held_until written read lock) && same_key lock.key key) (λ lock. meets_earlier order lock i && same_key lock.key key) (locks_at order i)
      (λ lock. ap (λ b. b && same_key lock.key key) (held_is order i written read C.writers C.readers lock))

  step : (key : Key) → wait_of next key ≡ counted_if (waits order key i) (i + 1) (wait_of counts key)
  step key = counts_now key ∙ ap (λ b. counted_if b (i + 1) (wait_of counts key)) (waits_is key)

  fresh : (key : Key) → nat_lt (wait_of counts key).place (i + 1) ≡ true
  fresh key = let p = C.places key in lt-ltb (wait_of counts key).place (i + 1) (omega (arith, p))

  counted_here : (key : Key) (b : Bool) → (counted_if b (i + 1) (wait_of counts key)).count ≡ waits_before order key i + cond b 1 0
  counted_here key true = let c = C.counts key in let f = few_before order key i in rw (fresh key) (omega (arith, c, f, few))
  counted_here key false = let c = C.counts key in omega (arith, c)

  placed_here : (key : Key) (b : Bool) → (counted_if b (i + 1) (wait_of counts key)).place ≤ i + 1
  placed_here key true = rw (fresh key) (omega arith)
  placed_here key false = let p = C.places key in omega (arith, p)

  pub Counted-next : (written' read' : BTreeMap Key ℕ)
      → ((key : Key) → end_of written' key ≡ raised (locks_as true (locks_at order i) key) 1 (end_of written key))
      → ((key : Key) → end_of read' key ≡ raised (locks_as false (locks_at order i) key) 1 (end_of read key))
      → Counted order next written' read' (i + 1)
  Counted-next written' read' writes reads = record {
    writers = Ends-next true (locks_at order) one i written written' writes C.writers;
    readers = Ends-next false (locks_at order) one i read read' reads C.readers;
    counts = λ key. ap (λ (x : Wait). x.count) (step key) ∙ (counted_here key (waits order key i) ∙ ap (waits_before order key) (sym (add-one i)));
    places = λ key. subst (λ (x : Wait). x.place ≤ i + 1) (sym (step key)) (placed_here key (waits order key i));
  }

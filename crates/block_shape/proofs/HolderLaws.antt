-- Whom each position waits for last.
use Rattle.std.proofs.Common.{◌≡◌, ℕ, zero, suc, ◌+◌, ◌-◌, ◌<◌, ◌≤◌, ◌==◌, Bool, true, false, ◌||◌, ◌&&◌, cond, inl, inr, List, [], ◌∷◌, ◌++◌, length, take, get_or, All, Option, None, Some, BTreeMap, refl, sym, ap, ◌∙◌, arith, subst, unwrap_or, eqb-true, eq-eqb, ne_eqb}
use Rattle.std.specs.Prelude.{nat_le, slice_index, slice_index_or}
use Rattle.std.specs.BTreeMap.{get, is_at}
use Rattle.std.proofs.lemmas.Bool.{both_ways, cases_eq, and_parts, and_from, false≢true, leb-true, leb-false, le-leb}
use Rattle.std.proofs.lemmas.List.{get_or_push, get_or_append_left, length_push}
use Rattle.std.proofs.lemmas.List.Folds.{list_any_more}
use Rattle.sol_base.specs.declared.key.Key.{Key}
use Rattle.sol_base.specs.declared.lock.Lock.{Lock}
use Rattle.sol_base.specs.Keys.{key_cmp, same_key}
use Rattle.sol_base.proofs.KeyLaws.{same_cmp, same_key-true}
use Rattle.bank_law.specs.Machine.{clash}
use Rattle.admission.specs.declared.chosen.Chosen.{Chosen}
use Rattle.block_shape.specs.declared.measure.Measure.{Measure}
use Rattle.block_shape.specs.declared.reach.Reach.{Reach}
use Rattle.block_shape.specs.Starts.{locks_at, end_at, HaveEnded}
use Rattle.block_shape.specs.Ends.{is_locked_as, locks_as}
use Rattle.block_shape.specs.Holders.{HoldsUp, IsHolder, HolderIs, reach_of, later, reached, place_at, held_place, holder_of}
use Rattle.block_shape.proofs.Laws.{no_lock, max_parts, max_from, met_as, as_met, any_in, in_any}

-- ---- one lock more

-- a position noted twice is noted once
later_again : (before : Reach) (end place : ℕ) → later (later before end place) end place ≡ later before end place
later_again before end place = by_case (nat_le before.end end) refl
  where
    by_case : (b : Bool) → nat_le before.end end ≡ b → later (cond b (record { end = end; place = place }) before) end place ≡ cond b (record { end = end; place = place }) before
    by_case true t = rw (le-leb end end (omega arith)) refl
    by_case false f = rw f refl

noted_more : (was here : Bool) (end place : ℕ) (before : Reach) → reached here end place (reached was end place before) ≡ reached (was || here) end place before
noted_more true true end place before = later_again before end place
noted_more true false end place before = refl
noted_more false true end place before = refl
noted_more false false end place before = refl

module _ (locks : List Lock) (i : ℕ) (l : i < length locks) (write : Bool) (end place : ℕ) (first reaches next : BTreeMap Key Reach)
    (kept : (key : Key) → reach_of reaches key ≡ reached (locks_as write (take i locks) key) end place (reach_of first key)) where
  abbrev lock : Lock
  lock = get_or locks i no_lock

  more : (key : Key) → reach_of next key
      ≡ reached (is_locked_as write lock && same_key lock.key key) end place (reach_of reaches key)
      → reach_of next key ≡ reached (locks_as write (take (i + 1) locks) key) end place (reach_of first key)
  more key step =
      step ∙ (ap (reached (is_locked_as write lock && same_key lock.key key) end place) (kept key)
      ∙ (noted_more (locks_as write (take i locks) key) (is_locked_as write lock && same_key lock.key key) end place (reach_of first key)
      ∙ ap (λ b. reached b end place (reach_of first key)) (sym (list_any_more (λ x. is_locked_as write x && same_key x.key key) locks i no_lock l))))

  pub noted : is_locked_as write lock ≡ true → (latest : Reach)
      → latest ≡ later (reach_of reaches lock.key) end place
      → ((key : Key) → get key_cmp next key
      ≡ cond (is_at (key_cmp lock.key) key) (Some latest) (get key_cmp reaches key))
      → (key : Key) → reach_of next key ≡ reached (locks_as write (take (i + 1) locks) key) end place (reach_of first key)
  noted so latest is puts key = more key
      (ap (λ (o : Option Reach). unwrap_or o (record { end = 0; place = 0 })) (puts key)
      ∙ (by_case (same_key lock.key key) refl
      ∙ ap (λ b. reached (b && same_key lock.key key) end place (reach_of reaches key)) (sym so)))
    where
      by_case : (b : Bool) → same_key lock.key key ≡ b
          → unwrap_or (cond (is_at (key_cmp lock.key) key) (Some latest) (get key_cmp reaches key))
          (record { end = 0; place = 0 }) ≡ reached (same_key lock.key key) end place (reach_of reaches key)
      by_case true t = rw (same_cmp lock.key key, t) (is ∙ ap (λ k. later (reach_of reaches k) end place) (same_key-true lock.key key t))
      by_case false f = rw (same_cmp lock.key key, f) refl

  pub unnoted : is_locked_as write lock ≡ false → next ≡ reaches → (key : Key) → reach_of next key ≡ reached (locks_as write (take (i + 1) locks) key) end place (reach_of first key)
  unnoted other same key = more key (ap (λ (m : BTreeMap Key Reach). reach_of m key) same ∙ ap (λ b. reached (b && same_key lock.key key) end place (reach_of reaches key)) (sym other))

-- ---- what is kept of a key, one position after the other

-- the greatest end of the positions that lock the key so, and the last that ends then
pub record Kept (write : Bool) (locks : ℕ → List Lock) (end : ℕ → ℕ) (i : ℕ) (key : Key) (kept : Reach) : Type 0 where
  pub greatest : (j : ℕ) → j < i → locks_as write (locks j) key ≡ true → end j ≤ kept.end
  pub least : (time : ℕ) → ((j : ℕ) → j < i → locks_as write (locks j) key ≡ true → end j ≤ time) → kept.end ≤ time
  pub behind : (j : ℕ) → j < i → locks_as write (locks j) key ≡ true → end j ≡ kept.end → j + 1 ≤ kept.place
  pub nearest : (place : ℕ) → ((j : ℕ) → j < i → locks_as write (locks j) key ≡ true → end j ≡ kept.end → j + 1 ≤ place) → kept.place ≤ place

Kept-none : (write : Bool) (locks : ℕ → List Lock) (end : ℕ → ℕ) (key : Key) → Kept write locks end 0 key (record { end = 0; place = 0 })
Kept-none write locks end key = record {
  greatest = λ j l. absurd (omega (arith, l));
  least = λ time all. omega arith;
  behind = λ j l. absurd (omega (arith, l));
  nearest = λ place all. omega arith;
}

Kept-next : (write : Bool) (locks : ℕ → List Lock) (end : ℕ → ℕ) (i : ℕ) (key : Key) (kept : Reach)
    → Kept write locks end i key kept
    → Kept write locks end (i + 1) key (reached (locks_as write (locks i) key) (end i) (i + 1) kept)
Kept-next write locks end i key kept K = by_lock (locks_as write (locks i) key) refl
  where
    -- an older position, or the new one
    by_place : (P : ℕ → Type 0) → ((j : ℕ) → j < i → P j) → P i → (j : ℕ) → j < i + 1 → P j
    by_place P old new j l = elim (cases_eq j i) [ inl e ↦ subst P (sym e) new | inr d ↦ old j (omega (arith, l, d)) ]

    by_lock : (b : Bool) → locks_as write (locks i) key ≡ b → Kept write locks end (i + 1) key (cond b (later kept (end i) (i + 1)) kept)
    by_lock false f = record {
      greatest = by_place (λ j. locks_as write (locks j) key ≡ true → end j ≤ kept.end) K.greatest (λ t. absurd (both_ways _ f t));
      least = λ time all. K.least time (λ j l. all j (omega (arith, l)));
      behind = by_place (λ j. locks_as write (locks j) key ≡ true → end j ≡ kept.end → j + 1 ≤ kept.place) K.behind (λ t. absurd (both_ways _ f t));
      nearest = λ place all. K.nearest place (λ j l. all j (omega (arith, l)));
    }
    by_lock true t = by_end (nat_le kept.end (end i)) refl
      where
        by_end : (c : Bool) → nat_le kept.end (end i) ≡ c → Kept write locks end (i + 1) key (cond c (record { end = end i; place = i + 1 }) kept)
        by_end true s = let under = leb-true kept.end (end i) s in record {
          greatest = by_place (λ j. locks_as write (locks j) key ≡ true → end j ≤ end i) (λ j l h. let g = K.greatest j l h in omega (arith, g, under)) (λ h. omega arith);
          least = λ time all. all i (omega arith) t;
          behind = λ j l h e. omega (arith, l);
          nearest = λ place all. all i (omega arith) t refl;
        }
        by_end false s = let over = leb-false kept.end (end i) s in record {
          greatest = by_place (λ j. locks_as write (locks j) key ≡ true → end j ≤ kept.end) K.greatest (λ h. omega (arith, over));
          least = λ time all. K.least time (λ j l. all j (omega (arith, l)));
          behind = by_place (λ j. locks_as write (locks j) key ≡ true → end j ≡ kept.end → j + 1 ≤ kept.place) K.behind (λ h e. absurd (omega (arith, over, e)));
          nearest = λ place all. K.nearest place (λ j l. all j (omega (arith, l)));
        }

abbrev pub Reaches : Bool → (ℕ → List Lock) → (ℕ → ℕ) → ℕ → BTreeMap Key Reach → Type 0
Reaches write locks end i reaches = (key : Key) → Kept write locks end i key (reach_of reaches key)

pub Reaches-none : (write : Bool) (locks : ℕ → List Lock) (end : ℕ → ℕ) (reaches : BTreeMap Key Reach) → reaches.entries ≡ [] → Reaches write locks end 0 reaches
Reaches-none write locks end reaches e = λ key. subst (Kept write locks end 0 key) (sym (none key)) (Kept-none write locks end key)
  where
    none : (key : Key) → reach_of reaches key ≡ record { end = 0; place = 0 }
    none key = rw e refl

pub Reaches-next : (write : Bool) (locks : ℕ → List Lock) (end : ℕ → ℕ) (i : ℕ)
    (reaches next : BTreeMap Key Reach)
    → ((key : Key) → reach_of next key
    ≡ reached (locks_as write (locks i) key) (end i) (i + 1) (reach_of reaches key))
    → Reaches write locks end i reaches → Reaches write locks end (i + 1) next
Reaches-next write locks end i reaches next step R = λ key. subst (Kept write locks end (i + 1) key) (sym (step key)) (Kept-next write locks end i key (reach_of reaches key) (R key))

-- ---- the place of the last that holds up a position

module _ (locks : ℕ → List Lock) (end : ℕ → ℕ) (i : ℕ) (written read : BTreeMap Key Reach) (W : Reaches true locks end i written) (R : Reaches false locks end i read) (start : ℕ)
    (ended : (j : ℕ) → j < i → clash (locks j) (locks i) ≡ true → end j ≤ start) (place : ℕ)
    (above : All (λ lock. held_place written read start lock ≤ place) (locks i)) (least : (bound : ℕ) → All (λ lock. held_place written read start lock ≤ bound) (locks i) → place ≤ bound) where
  -- at a key that holds a lock up, the place is that of the last that ends at the start
  place_parts : (write : Bool) (key : Key) (kept : Reach) → Kept write locks end i key kept → kept.end ≤ start
      → (bound : ℕ) → place_at kept start ≤ bound → (j : ℕ) → j < i → locks_as write (locks j) key ≡ true
      → end j ≡ start → j + 1 ≤ bound
  place_parts write key kept K under bound l j m h e =
      let g = K.greatest j m h in
      let same : kept.end ≡ start = omega (arith, g, under, e) in
      let here : place_at kept start ≡ kept.place = rw (eq-eqb kept.end start same) refl in
      let b = K.behind j m h (e ∙ sym same) in
      omega (arith, here, l, b)

  place_from : (write : Bool) (key : Key) (kept : Reach) → Kept write locks end i key kept → (bound : ℕ)
      → ((j : ℕ) → j < i → locks_as write (locks j) key ≡ true → end j ≡ start → j + 1 ≤ bound)
      → place_at kept start ≤ bound
  place_from write key kept K bound all = by_case (kept.end == start) refl
    where
      by_case : (b : Bool) → (kept.end == start) ≡ b → cond b kept.place 0 ≤ bound
      by_case true t = K.nearest bound (λ j m h e. all j m h (e ∙ eqb-true kept.end start t))
      by_case false f = omega arith

  -- whoever locks the key of a lock clashes
  clashes : (k : ℕ) (d : Lock) → k < length (locks i) → (write : Bool)
      → (write ≡ false → (get_or (locks i) k d).write ≡ true) → (j : ℕ)
      → locks_as write (locks j) (get_or (locks i) k d).key ≡ true → clash (locks j) (locks i) ≡ true
  clashes k d l write asks j h = any_in (locks j) (locks i) k d l (as_met (locks j) (get_or (locks i) k d) write asks h)

  pub place_above : (j : ℕ) → j < i → clash (locks j) (locks i) ≡ true → end j ≡ start → j + 1 ≤ place
  place_above j l h e =
      let found = in_any (locks j) (locks i) h in
      let b : Lock = get_or (locks i) found.0 no_lock in
      let parts = max_parts b.write (place_at (reach_of written b.key) start) (place_at (reach_of read b.key) start) place (above found.0 no_lock found.1) in
      elim (met_as (locks j) b found.2) [
        | inl w ↦ place_parts true b.key (reach_of written b.key) (W b.key)
            ((W b.key).least start (λ x m g. ended x m (clashes found.0 no_lock found.1 true (λ f. absurd (false≢true (sym f))) x g)))
            place parts.0 j l w e
        | inr r ↦ place_parts false b.key (reach_of read b.key) (R b.key)
            ((R b.key).least start (λ x m g. ended x m (clashes found.0 no_lock found.1 false (λ f. r.0) x g)))
            place (parts.1 r.0) j l r.1 e
      ]

  pub place_least : (bound : ℕ) → ((j : ℕ) → j < i → clash (locks j) (locks i) ≡ true → end j ≡ start → j + 1 ≤ bound) → place ≤ bound
  place_least bound all = least bound (λ k d l. let b : Lock = get_or (locks i) k d in
      max_from b.write (place_at (reach_of written b.key) start) (place_at (reach_of read b.key) start) bound
      (place_from true b.key (reach_of written b.key) (W b.key) bound (λ j m h. all j m (clashes k d l true (λ f. absurd (false≢true (sym f))) j h)))
      (λ w. place_from false b.key (reach_of read b.key) (R b.key) bound (λ j m h. all j m (clashes k d l false (λ f. w) j h))))

holder_of_suc : (h : ℕ) → holder_of (suc h) ≡ Some h
holder_of_suc h = let other : (suc h == 0) ≡ false = ne_eqb (suc h) 0 (λ q. absurd (omega (arith, q))) in let one : suc h - 1 ≡ h = omega arith in rw (other, one) refl

-- the first positions have their holders
pub record Held (measure : Measure) (order : List Chosen) (starts : List ℕ) (written read : BTreeMap Key Reach) (holders : List (Option ℕ)) (i : ℕ) : Type 0 where
  pub long : length holders ≡ i
  pub writers : Reaches true (locks_at order) (end_at measure order starts) i written
  pub readers : Reaches false (locks_at order) (end_at measure order starts) i read
  pub each : (m : ℕ) → m < i → HolderIs measure order starts m (slice_index_or holders m None)

pub Held-none : (measure : Measure) (order : List Chosen) (starts : List ℕ) (written read : BTreeMap Key Reach)
    (holders : List (Option ℕ)) → holders ≡ [] → written.entries ≡ [] → read.entries ≡ []
    → Held measure order starts written read holders 0
Held-none measure order starts written read holders h w r = record {
  long = ap length h;
  writers = Reaches-none true (locks_at order) (end_at measure order starts) written w;
  readers = Reaches-none false (locks_at order) (end_at measure order starts) read r;
  each = λ m l. absurd (omega (arith, l));
}

module _ (measure : Measure) (order : List Chosen) (starts : List ℕ) (written read : BTreeMap Key Reach) (holders : List (Option ℕ)) (i : ℕ) (H : Held measure order starts written read holders i)
    (ended : HaveEnded measure order starts i (slice_index starts i)) (place : ℕ)
    (above : All (λ lock. held_place written read (slice_index starts i) lock ≤ place) (locks_at order i))
    (least : (bound : ℕ) → All (λ lock. held_place written read (slice_index starts i) lock ≤ bound)
    (locks_at order i) → place ≤ bound) where
  behind : (j : ℕ) → j < i → clash (locks_at order j) (locks_at order i) ≡ true → end_at measure order starts j ≡ slice_index starts i → j + 1 ≤ place
  behind = place_above (locks_at order) (end_at measure order starts) i written read H.writers H.readers (slice_index starts i) ended place above least

  nearest : (bound : ℕ) → ((j : ℕ) → j < i → clash (locks_at order j) (locks_at order i) ≡ true → end_at measure order starts j ≡ slice_index starts i → j + 1 ≤ bound) → place ≤ bound
  nearest = place_least (locks_at order) (end_at measure order starts) i written read H.writers H.readers (slice_index starts i) ended place above least

  -- the place is that of one which holds the position up
  holds : (h : ℕ) → place ≡ suc h → HoldsUp measure order starts h i
  holds h e = by_test (clash (locks_at order h) (locks_at order i) && (end_at measure order starts h == slice_index starts i)) refl
    where
      by_test : (b : Bool) → (clash (locks_at order h) (locks_at order i) && (end_at measure order starts h == slice_index starts i)) ≡ b → HoldsUp measure order starts h i
      by_test true t =
          let parts = and_parts (clash (locks_at order h) (locks_at order i)) (end_at measure order starts h == slice_index starts i) t in
          let most = nearest i (λ j l c s. omega (arith, l)) in
          record {
            earlier = omega (arith, most, e);
            conflicts = parts.0;
            ends = eqb-true (end_at measure order starts h) (slice_index starts i) parts.1;
          }
      by_test false f =
          let fewer = nearest h (λ j l c s. let b = behind j l c s in
          elim (cases_eq j h) [
            | inl q ↦ absurd (both_ways _ f (and_from (clash (locks_at order h) (locks_at order i)) (end_at measure order starts h == slice_index starts i)
                (subst (λ k. clash (locks_at order k) (locks_at order i) ≡ true) q c)
                (eq-eqb (end_at measure order starts h) (slice_index starts i) (subst (λ k. end_at measure order starts k ≡ slice_index starts i) q s))))
            | inr d ↦ omega (arith, b, e, d)
          ]) in
          absurd (omega (arith, fewer, e))

  last_of : (h : ℕ) → place ≡ suc h → IsHolder measure order starts i h
  last_of h e = record {
    holds = holds h e;
    last = λ j U. let b = behind j U.earlier U.conflicts U.ends in omega (arith, b, e);
  }

  holder_here : HolderIs measure order starts i (holder_of place)
  holder_here = by_place place refl
    where
      by_place : (p : ℕ) → place ≡ p → HolderIs measure order starts i (holder_of p)
      by_place zero e = λ j U. let b = behind j U.earlier U.conflicts U.ends in omega (arith, b, e)
      by_place (suc h) e = subst (HolderIs measure order starts i) (sym (holder_of_suc h)) (last_of h e)

  pub Held-next : (next : List (Option ℕ)) → next ≡ holders ++ holder_of place ∷ [] → (written' read' : BTreeMap Key Reach)
      → ((key : Key) → reach_of written' key ≡ reached (locks_as true (locks_at order i) key) (end_at measure order starts i) (i + 1) (reach_of written key))
      → ((key : Key) → reach_of read' key ≡ reached (locks_as false (locks_at order i) key) (end_at measure order starts i) (i + 1) (reach_of read key))
      → Held measure order starts written' read' next (i + 1)
  Held-next next pushed written' read' writes reads = record {
    long = ap length pushed ∙ (length_push holders (holder_of place) ∙ ap (λ n. n + 1) H.long);
    writers = Reaches-next true (locks_at order) (end_at measure order starts) i written written' writes H.writers;
    readers = Reaches-next false (locks_at order) (end_at measure order starts) i read read' reads H.readers;
    each = λ m l.
        elim (cases_eq m i) [
          | inl e ↦ subst (λ k. HolderIs measure order starts k (slice_index_or next k None)) (sym e)
              (subst (HolderIs measure order starts i) (sym (ap (λ (xs : List (Option ℕ)). slice_index_or xs i None) pushed ∙ get_or_push holders (holder_of place) None i H.long)) holder_here)
          | inr d ↦ let under : m < i = omega (arith, l, d) in
              subst (HolderIs measure order starts m)
              (sym (ap (λ (xs : List (Option ℕ)). slice_index_or xs m None) pushed
              ∙ get_or_append_left holders (holder_of place ∷ []) None m
              (let e = H.long in omega (arith, e, under)))) (H.each m under)
        ];
  }

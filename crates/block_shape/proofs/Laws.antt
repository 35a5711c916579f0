-- Ends at keys, and who is held up by them.
use Rattle.std.proofs.Common.{◌≡◌, ℕ, suc, ◌+◌, ◌<◌, ◌≤◌, ◌↔◌, Bool, true, false, not, ◌||◌, ◌&&◌, ◌⊎◌, cond, inl, inr, List, [], ◌∷◌, length, take, get_or, refl, sym, ap, ◌∙◌, arith, Some, subst, unwrap_or, max, All}
use Rattle.std.specs.List.{list_any}
use Rattle.std.specs.BTreeMap.{BTreeMap, get, is_at}
use Rattle.std.proofs.Math.Bool.{beq}
use Rattle.std.proofs.lemmas.Bool.{both_ways, cases_Bool, cases_eq, or_cases, or_left, or_right, and_parts, and_from, not_from_false, false≢true}
use Rattle.std.proofs.lemmas.List.Folds.{list_any_at, list_any_more}
use Rattle.sol_base.specs.declared.key.Key.{Key}
use Rattle.sol_base.specs.declared.lock.Lock.{Lock}
use Rattle.sol_base.specs.Keys.{key_cmp, same_key}
use Rattle.sol_base.proofs.KeyLaws.{same_cmp, same_key-true}
use Rattle.bank_law.specs.Machine.{meet, clash}
use Rattle.block_shape.specs.Ends.{end_of, held_until, is_locked_as, locks_as, raised, Ends}

-- a lock to read at where there is none
abbrev pub no_lock : Lock
no_lock = record { key = record { 0 = [] }; write = false }

-- the kind of a lock
pub kind_is : (write : Bool) (lock : Lock) → is_locked_as write lock ≡ beq lock.write write
kind_is write lock = by_case write lock.write
  where
    by_case : (write own : Bool) → cond write own (not own) ≡ beq own write
    by_case true true = refl
    by_case true false = refl
    by_case false true = refl
    by_case false false = refl

-- ---- one lock more

-- an end noted twice is noted once
noted_more : (was here : Bool) (end before : ℕ) → raised here end (raised was end before) ≡ raised (was || here) end before
noted_more true true end before = omega arith
noted_more true false end before = refl
noted_more false true end before = refl
noted_more false false end before = refl

module _ (locks : List Lock) (i : ℕ) (l : i < length locks) (write : Bool) (end : ℕ) (first ends next : BTreeMap Key ℕ)
    (kept : (key : Key) → end_of ends key ≡ raised (locks_as write (take i locks) key) end (end_of first key)) where
  abbrev lock : Lock
  lock = get_or locks i no_lock

  more : (key : Key) → end_of next key
      ≡ raised (is_locked_as write lock && same_key lock.key key) end (end_of ends key)
      → end_of next key ≡ raised (locks_as write (take (i + 1) locks) key) end (end_of first key)
  more key step =
      step ∙ (ap (raised (is_locked_as write lock && same_key lock.key key) end) (kept key)
      ∙ (noted_more (locks_as write (take i locks) key) (is_locked_as write lock && same_key lock.key key) end (end_of first key)
      ∙ ap (λ b. raised b end (end_of first key)) (sym (list_any_more (λ x. is_locked_as write x && same_key x.key key) locks i no_lock l))))

  -- a lock of this kind notes the end at its key
  pub noted : is_locked_as write lock ≡ true → (greatest : ℕ) → greatest ≡ max (end_of ends lock.key) end
      → ((key : Key) → get key_cmp next key
      ≡ cond (is_at (key_cmp lock.key) key) (Some greatest) (get key_cmp ends key))
      → (key : Key) → end_of next key ≡ raised (locks_as write (take (i + 1) locks) key) end (end_of first key)
  noted so greatest is puts key = more key (ap (λ o. unwrap_or o 0) (puts key) ∙ (by_case (same_key lock.key key) refl ∙ ap (λ b. raised (b && same_key lock.key key) end (end_of ends key)) (sym so)))
    where
      by_case : (b : Bool) → same_key lock.key key ≡ b → unwrap_or (cond (is_at (key_cmp lock.key) key) (Some greatest) (get key_cmp ends key)) 0 ≡ raised (same_key lock.key key) end (end_of ends key)
      by_case true t = rw (same_cmp lock.key key, t) (is ∙ ap (λ k. max (end_of ends k) end) (same_key-true lock.key key t))
      by_case false f = rw (same_cmp lock.key key, f) refl

  -- and one of the other kind none
  pub unnoted : is_locked_as write lock ≡ false → next ≡ ends → (key : Key) → end_of next key ≡ raised (locks_as write (take (i + 1) locks) key) end (end_of first key)
  unnoted other same key = more key (ap (λ (m : BTreeMap Key ℕ). end_of m key) same ∙ ap (λ b. raised (b && same_key lock.key key) end (end_of ends key)) (sym other))

-- ---- the greater of two ends, where the second counts
pub max_parts : (b : Bool) (first second time : ℕ) → cond b (max first second) first ≤ time → (first ≤ time) × (b ≡ true → second ≤ time)
max_parts true first second time l = (omega (arith, l), λ t. omega (arith, l))
max_parts false first second time l = (l, λ t. absurd (false≢true t))

pub max_from : (b : Bool) (first second time : ℕ) → first ≤ time → (b ≡ true → second ≤ time) → cond b (max first second) first ≤ time
max_from true first second time l more = let m = more refl in omega (arith, l, m)
max_from false first second time l more = l

-- ---- locks that clash
-- a lock that meets one of the other list finds its key there
pub met_as : (one : List Lock) (b : Lock) → list_any (λ a. meet a b) one ≡ true → (locks_as true one b.key ≡ true) ⊎ ((b.write ≡ true) × (locks_as false one b.key ≡ true))
met_as [] b h = absurd (false≢true h)
met_as (a ∷ more) b h =
    elim (or_cases (meet a b) (list_any (λ x. meet x b) more) h) [
      | inl t ↦ let parts = and_parts (same_key a.key b.key) (a.write || b.write) t in first parts.0 (cases_Bool a.write) parts.1
      | inr r ↦ elim (met_as more b r) [
        | inl w ↦ inl (or_right (is_locked_as true a && same_key a.key b.key) (locks_as true more b.key) w)
        | inr w ↦ inr (w.0, or_right (is_locked_as false a && same_key a.key b.key) (locks_as false more b.key) w.1)
      ]
    ]
  where
    first : same_key a.key b.key ≡ true → (a.write ≡ true) ⊎ (a.write ≡ false) → (a.write || b.write) ≡ true
        → (locks_as true (a ∷ more) b.key ≡ true)
        ⊎ ((b.write ≡ true) × (locks_as false (a ∷ more) b.key ≡ true))
    first same (inl t) either = inl (or_left (is_locked_as true a && same_key a.key b.key) (locks_as true more b.key) (and_from a.write (same_key a.key b.key) t same))
    first same (inr f) either = inr (
      (elim (or_cases a.write b.write either) [ inl t ↦ absurd (both_ways _ f t) | inr r ↦ r ]),
      or_left (is_locked_as false a && same_key a.key b.key) (locks_as false more b.key) (and_from (not a.write) (same_key a.key b.key) (not_from_false a.write f) same),
    )

-- the other way round
pub as_met : (one : List Lock) (b : Lock) (write : Bool) → (write ≡ false → b.write ≡ true) → locks_as write one b.key ≡ true → list_any (λ a. meet a b) one ≡ true
as_met [] b write asks h = absurd (false≢true h)
as_met (a ∷ more) b write asks h =
    elim (or_cases (is_locked_as write a && same_key a.key b.key) (locks_as write more b.key) h) [
      | inl t ↦
          let parts = and_parts (is_locked_as write a) (same_key a.key b.key) t in
          or_left (meet a b) (list_any (λ x. meet x b) more) (and_from (same_key a.key b.key) (a.write || b.write) parts.1 (one_writes write asks parts.0))
      | inr r ↦ or_right (meet a b) (list_any (λ x. meet x b) more) (as_met more b write asks r)
    ]
  where
    one_writes : (write : Bool) → (write ≡ false → b.write ≡ true) → is_locked_as write a ≡ true → (a.write || b.write) ≡ true
    one_writes true asks w = or_left a.write b.write w
    one_writes false asks w = or_right a.write b.write (asks refl)

-- the tests of two lists in either order
pub any_in : (one other : List Lock) (k : ℕ) (d : Lock) → k < length other → list_any (λ a. meet a (get_or other k d)) one ≡ true → clash one other ≡ true
any_in [] other k d l h = absurd (false≢true h)
any_in (a ∷ more) other k d l h =
    elim (or_cases (meet a (get_or other k d)) (list_any (λ x. meet x (get_or other k d)) more) h) [
      | inl t ↦ or_left (list_any (λ b. meet a b) other) (clash more other) (list_any_at (λ b. meet a b) other k d l t)
      | inr r ↦ or_right (list_any (λ b. meet a b) other) (clash more other) (any_in more other k d l r)
    ]

any_place : (p : Lock → Bool) (xs : List Lock) → list_any p xs ≡ true → (k : ℕ) × (k < length xs) × (p (get_or xs k no_lock) ≡ true)
any_place p [] h = absurd (false≢true h)
any_place p (x ∷ xs) h =
    elim (or_cases (p x) (list_any p xs) h) [
      | inl t ↦ (0, omega arith, t)
      | inr r ↦ let there = any_place p xs r in (suc there.0, omega (arith, there.1), there.2)
    ]

pub in_any : (one other : List Lock) → clash one other ≡ true → (k : ℕ) × (k < length other) × (list_any (λ a. meet a (get_or other k no_lock)) one ≡ true)
in_any [] other h = absurd (false≢true h)
in_any (a ∷ more) other h =
    elim (or_cases (list_any (λ b. meet a b) other) (clash more other) h) [
      | inl t ↦ let found = any_place (λ b. meet a b) other t
          in (
            found.0,
            found.1,
            or_left (meet a (get_or other found.0 no_lock))
                (list_any (λ x. meet x (get_or other found.0 no_lock)) more) found.2,
          )
      | inr r ↦ let found = in_any more other r in (found.0, found.1, or_right (meet a (get_or other found.0 no_lock)) (list_any (λ x. meet x (get_or other found.0 no_lock)) more) found.2)
    ]

-- ---- the ends of keys, one position after the other
pub Ends-none : (write : Bool) (locks : ℕ → List Lock) (end : ℕ → ℕ) (ends : BTreeMap Key ℕ) → ends.entries ≡ [] → Ends write locks end 0 ends
Ends-none write locks end ends e = λ key time. ((λ l j m h. absurd (omega (arith, m))), (λ all. let z = none key in omega (arith, z)))
  where
    none : (key : Key) → end_of ends key ≡ 0
    none key = rw e refl

pub Ends-same : (write : Bool) (locks : ℕ → List Lock) (end other : ℕ → ℕ) (i : ℕ) (ends : BTreeMap Key ℕ)
    → ((j : ℕ) → j < i → end j ≡ other j) → Ends write locks end i ends → Ends write locks other i ends
Ends-same write locks end other i ends same E = λ key time. (
  (λ l j m h. let a = same j m in let b = (E key time).0 l j m h in omega (arith, a, b)),
  (λ all. (E key time).1 (λ j m h. let a = same j m in let b = all j m h in omega (arith, a, b))),
)

pub Ends-next : (write : Bool) (locks : ℕ → List Lock) (end : ℕ → ℕ) (i : ℕ) (ends next : BTreeMap Key ℕ)
    → ((key : Key) → end_of next key ≡ raised (locks_as write (locks i) key) (end i) (end_of ends key))
    → Ends write locks end i ends → Ends write locks end (i + 1) next
Ends-next write locks end i ends next step E = λ key time. (
  (λ l j m h.
      let parts = max_parts (locks_as write (locks i) key) (end_of ends key) (end i) time (subst (λ n. n ≤ time) (step key) l) in
      elim (cases_eq j i) [
        | inl e ↦ subst (λ k. end k ≤ time) (sym e) (parts.1 (subst (λ k. locks_as write (locks k) key ≡ true) e h))
        | inr d ↦ (E key time).0 parts.0 j (omega (arith, m, d)) h
      ]),
  (λ all. subst (λ n. n ≤ time) (sym (step key)) (max_from (locks_as write (locks i) key) (end_of ends key) (end i) time
      ((E key time).1 (λ j m h. all j (omega (arith, m)) h)) (λ h. all i (omega arith) h))),
)

-- ---- the start of a position
module _ (locks : ℕ → List Lock) (end : ℕ → ℕ) (i : ℕ) (written read : BTreeMap Key ℕ) (W : Ends true locks end i written) (R : Ends false locks end i read) (start : ℕ)
    (above : All (λ lock. held_until written read lock ≤ start) (locks i)) (least : (time : ℕ) → All (λ lock. held_until written read lock ≤ time) (locks i) → start ≤ time) where
  ended : (j : ℕ) → j < i → clash (locks j) (locks i) ≡ true → end j ≤ start
  ended j l h =
      let found = in_any (locks j) (locks i) h in
      let b : Lock = get_or (locks i) found.0 no_lock in
      let parts = max_parts b.write (end_of written b.key) (end_of read b.key) start (above found.0 no_lock found.1) in
      elim (met_as (locks j) b found.2) [
        | inl w ↦ (W b.key start).0 parts.0 j l w
        | inr r ↦ (R b.key start).0 (parts.1 r.0) j l r.1
      ]

  pub start_is : (time : ℕ) → (start ≤ time) ↔ ((j : ℕ) → j < i → clash (locks j) (locks i) ≡ true → end j ≤ time)
  start_is time = (
    (λ l j m h. let e = ended j m h in omega (arith, l, e)),
    (λ all. least time (λ k d l. let b : Lock = get_or (locks i) k d in
        max_from b.write (end_of written b.key) (end_of read b.key) time
        ((W b.key time).1 (λ j m h. all j m (any_in (locks j) (locks i) k d l (as_met (locks j) b true (λ f. absurd (false≢true (sym f))) h))))
        (λ w. (R b.key time).1 (λ j m h. all j m (any_in (locks j) (locks i) k d l (as_met (locks j) b false (λ f. w) h)))))),
  )

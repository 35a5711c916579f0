-- A table that gets one key more, or one fewer.
use Rattle.std.proofs.Common.{append-nil, append_assoc, ◌≡◌, ℕ, ◌+◌, ◌<◌, ◌≤◌, Bool, true, false, ◌||◌, cond, ◌⊎◌, inl, inr, List, [], ◌∷◌, ◌++◌, length, get_or, take, drop, Option, Some, None, refl, sym, ◌∙◌, ap, subst, arith, ne_eqb, eq-eqb, length-append}
use Rattle.std.specs.List.{IsDistinct, AllByRecursion, list_any, position_or_len}
use Rattle.std.proofs.lemmas.Bool.{both_ways, cond_both, cond-false, cases_order, cases_lt, false_from_ne_true, or_from}
use Rattle.std.proofs.lemmas.List.{take-take, take_all, take_at, map_more, map-append, take-append-drop}
use Rattle.std.proofs.lemmas.List.Folds.{list_any_at, list_any_none}
use Rattle.std.proofs.lemmas.List.Sums.{fails_before_first, position_or_len_is}
use Rattle.std.proofs.lemmas.List.Quantifiers.{position-Some}
use Rattle.std.proofs.lemmas.Map.Keys.{IsDistinct-push, IsDistinct-from_sorted, apart_from_distinct}
use Rattle.std.specs.List.Sorted.{IsStrictlySortedBy}
use Rattle.std.specs.Ordering.{eq_by_cmp}
use Rattle.std.specs.Prelude.{IsSome}
use Rattle.sol_base.specs.declared.key.Key.{Key}
use Rattle.sol_base.specs.declared.lock.Lock.{Lock}
use Rattle.sol_base.specs.Keys.{key_cmp}
use Rattle.bank_law.specs.Job.{same_key, has_key, lock_keys}
use Rattle.bank_law.proofs.Keys.{same_key-true, same_key-self, same_key-sym, same_key-equiv}
use Rattle.sol_base.proofs.KeyLaws.{same_cmp}
use Rattle.lock_table.specs.Numbers.{number_of, numbered_key, with_key, with_keys}
use Rattle.lock_table.specs.Laws.{EqualKeysEqualNumbers, KeysStay, KeysStayDistinct, TablesGrowLittle}
use Rattle.lock_table.proofs.Places.{position-some, position_push-here, position_push-other}
use Rattle.lock_table.proofs.Numbering.{no_key, length-with_key-le}

all_front : {X : Type 0} (P : X → Type 0) (xs ys : List X) → AllByRecursion P (xs ++ ys) → AllByRecursion P xs
all_front P [] ys a = tt
all_front P (x ∷ xs) ys a = (a.0, all_front P xs ys a.1)

all_last : {X : Type 0} (P : X → Type 0) (xs : List X) (y : X) → AllByRecursion P (xs ++ y ∷ []) → P y
all_last P [] y a = a.0
all_last P (x ∷ xs) y a = all_last P xs y a.1

-- the first of keys that are distinct are so
pub distinct_front : (keys more : List Key) → IsDistinct same_key (keys ++ more) → IsDistinct same_key keys
unfolding IsDistinct
distinct_front [] more a = tt
distinct_front (k ∷ ks) more a = (all_front (λ q. same_key k q ≡ false) ks more a.0, distinct_front ks more a.1)

-- and the last is none of the others
pub last_apart : (keys : List Key) (key : Key) → IsDistinct same_key (keys ++ key ∷ []) → has_key key keys ≡ false
unfolding IsDistinct
last_apart [] key a = refl
last_apart (k ∷ ks) key a =
    or_from (same_key key k) (has_key key ks) (same_key-sym key k ∙ all_last (λ q. same_key k q ≡ false) ks key a.0) (last_apart ks key a.1)

-- the numbers once a key has the next one
number_of_push : (keys : List Key) (key q : Key) → has_key key keys ≡ false → number_of (keys ++ key ∷ []) q ≡ cond (same_key q key) (Some (length keys)) (number_of keys q)
number_of_push keys key q apart = by_case (same_key q key) refl
  where
    by_case : (b : Bool) → same_key q key ≡ b → number_of (keys ++ key ∷ []) q ≡ cond b (Some (length keys)) (number_of keys q)
    by_case true e = position_push-here (λ k. same_key q k) keys key (subst (λ k. has_key k keys ≡ false) (sym (same_key-true q key e)) apart) e
    by_case false e = position_push-other (λ k. same_key q k) keys key e

-- a key without a number is none of the keys
pub absent : (keys : List Key) (key : Key) → number_of keys key ≡ None → has_key key keys ≡ false
absent keys key none =
    list_any_none p keys (λ k d l. fails_before_first p keys k d (by_place k l (cases_lt (position_or_len p keys) (length keys))))
  where
    p : Key → Bool
    p k = same_key key k

    by_place : (k : ℕ) → k < length keys → (position_or_len p keys < length keys) ⊎ (length keys ≤ position_or_len p keys) → k < position_or_len p keys
    by_place k l (inl u) = let some = position-some p keys u in absurd (cc (some, none))
    by_place k l (inr m) = omega (arith, l, m)

distinct_keys : (keys : List Key) → IsDistinct (eq_by_cmp key_cmp) keys → IsDistinct same_key keys
unfolding IsDistinct
distinct_keys [] d = tt
distinct_keys (k ∷ ks) d = (apart ks d.0, distinct_keys ks d.1)
  where
    apart : (xs : List Key) → AllByRecursion (λ y. eq_by_cmp key_cmp k y ≡ false) xs → AllByRecursion (λ y. same_key k y ≡ false) xs
    apart [] h = tt
    apart (x ∷ xs) h = (sym (same_cmp k x) ∙ h.0, apart xs h.1)

-- keys that are distinct are numbered as they come
with_keys-behind : (keys more : List Key) → IsDistinct same_key (keys ++ more) → with_keys keys more ≡ keys ++ more
with_keys-behind keys [] d = sym (append-nil keys)
with_keys-behind keys (key ∷ more) d =
    ap (λ ks. with_keys ks more) (cond-false (has_key key keys) keys (keys ++ key ∷ []) apart) ∙ with_keys-behind (keys ++ key ∷ []) more all ∙ sym one_by_one
  where
    one_by_one : keys ++ key ∷ more ≡ (keys ++ key ∷ []) ++ more
    one_by_one = sym (append_assoc keys (key ∷ []) more)

    all : IsDistinct same_key ((keys ++ key ∷ []) ++ more)
    all = subst (IsDistinct same_key) one_by_one d

    apart : has_key key keys ≡ false
    apart = last_apart keys key (distinct_front (keys ++ key ∷ []) more all)

pub with_keys-sorted : (keys : List Key) → IsStrictlySortedBy key_cmp keys → with_keys [] keys ≡ keys
with_keys-sorted keys up = with_keys-behind [] keys (distinct_keys keys (IsDistinct-from_sorted key_cmp keys up))

-- the number of the key at a place
pub number_at : (keys : List Key) (q : Key) (at : ℕ) (d : Key) → IsDistinct same_key keys → at < length keys → get_or keys at d ≡ q → number_of keys q ≡ Some at
number_at keys q at d distinct below is = position-some (λ k. same_key q k) keys (omega (arith, place, below)) ∙ ap Some place
  where
    place : position_or_len (λ k. same_key q k) keys ≡ at
    place = position_or_len_is (λ k. same_key q k) keys at d (omega (arith, below))
        (λ k l. same_key-sym q (get_or keys k d) ∙ ap (same_key (get_or keys k d)) (sym is) ∙ apart_from_distinct same_key keys k at d distinct l below)
        (λ l. subst (λ k. same_key q k ≡ true) (sym is) (same_key-self q))

-- a key that has a number is among the keys
pub present : (keys : List Key) (key : Key) (n : ℕ) → number_of keys key ≡ Some n → has_key key keys ≡ true
present keys key n e = let found = position-Some (λ k. same_key key k) keys n no_key e in list_any_at (λ k. same_key key k) keys n no_key found.0 found.1

-- and the other way round
pub has_number : (keys : List Key) (key : Key) (o : Option ℕ) → has_key key keys ≡ true → o ≡ number_of keys key → IsSome o
has_number keys key None there e = absurd (both_ways _ (absent keys key (sym e)) there)
has_number keys key (Some n) there e = refl

-- one key more leaves the keys before it
take-with_key : (keys : List Key) (key : Key) → take (length keys) (with_key keys key) ≡ keys
take-with_key keys key =
    cond_both (has_key key keys) keys (keys ++ key ∷ []) (λ ks. take (length keys) ks ≡ keys) (λ t. take_all (length keys) keys (omega arith)) (λ f. take_at keys (key ∷ []) (length keys) refl)

longer : (keys : List Key) (key : Key) → length keys ≤ length (with_key keys key)
longer keys key =
    cond_both (has_key key keys) keys (keys ++ key ∷ []) (λ ks. length keys ≤ length ks) (λ t. omega arith) (λ f. let l = length-append keys (key ∷ []) in omega (arith, l))

pub take-with_keys : (keys more : List Key) → take (length keys) (with_keys keys more) ≡ keys
take-with_keys keys [] = take_all (length keys) keys (omega arith)
take-with_keys keys (key ∷ more) =
    sym (take-take (length keys) (length (with_key keys key)) (with_keys (with_key keys key) more) (longer keys key))
    ∙ (ap (take (length keys)) (take-with_keys (with_key keys key) more) ∙ take-with_key keys key)

pub tables_grow : TablesGrowLittle
tables_grow keys [] = omega arith
tables_grow keys (key ∷ more) =
    let one = length-with_key-le keys key in
    let rest = tables_grow (with_key keys key) more in
    omega (arith, one, rest)

with_key-distinct : (keys : List Key) (key : Key) → IsDistinct same_key keys → IsDistinct same_key (with_key keys key)
with_key-distinct keys key d =
    cond_both (has_key key keys) keys (keys ++ key ∷ []) (IsDistinct same_key) (λ t. d) (λ f. IsDistinct-push same_key-equiv keys key d f)

pub stay_distinct : KeysStayDistinct
stay_distinct keys [] d = d
stay_distinct keys (key ∷ more) d = stay_distinct (with_key keys key) more (with_key-distinct keys key d)

with_key-stays : (keys : List Key) (more key : Key) (n : ℕ) → number_of keys key ≡ Some n → number_of (with_key keys more) key ≡ Some n
with_key-stays keys more key n e =
    cond_both (has_key more keys) keys (keys ++ more ∷ []) (λ ks. number_of ks key ≡ Some n) (λ t. e)
    (λ f. number_of_push keys more key f ∙ (cond-false (same_key key more) (Some (length keys)) (number_of keys key)
    (false_from_ne_true _ (λ t. both_ways _ f (subst (λ k. has_key k keys ≡ true) (same_key-true key more t) (present keys key n e)))) ∙ e))

pub keys_stay : KeysStay
keys_stay keys [] key n e = e
keys_stay keys (k ∷ more) key n e = keys_stay (with_key keys k) more key n (with_key-stays keys k key n e)

-- numbers of distinct keys are equal where their keys are
pub equal_numbers : EqualKeysEqualNumbers
equal_numbers keys distinct m n l k =
    elim (cases_order m n) [
      | inl e ↦ subst (λ x. same_key (numbered_key keys m) (numbered_key keys x) ≡ true) e (same_key-self (numbered_key keys m)) ∙ sym (eq-eqb m n e)
      | inr (inl u) ↦ apart_from_distinct same_key keys m n no_key distinct u k ∙ sym (ne_eqb m n (λ e. omega arith))
      | inr (inr u) ↦ same_key-sym (numbered_key keys m) (numbered_key keys n) ∙ (apart_from_distinct same_key keys n m no_key distinct u l ∙ sym (ne_eqb m n (λ e. omega arith)))
    ]

-- locks on keys
pub has_key-lock_keys : (key : Key) (locks : List Lock) → has_key key (lock_keys locks) ≡ list_any (λ lock. same_key key lock.key) locks
has_key-lock_keys key [] = refl
has_key-lock_keys key (x ∷ xs) = ap (λ b. same_key key x.key || b) (has_key-lock_keys key xs)

pub distinct-none : IsDistinct same_key []
unfolding IsDistinct
distinct-none = tt

-- one lock more of a list
module _ (locks : List Lock) (i : ℕ) (d : Lock) (l : i < length locks) where
  one_more : lock_keys (take (i + 1) locks) ≡ lock_keys (take i locks) ++ (get_or locks i d).key ∷ []
  one_more = map_more (λ (lock : Lock). lock.key) locks i d l

  -- which none of those before is on
  pub distinct_more : IsDistinct same_key (lock_keys (take i locks))
      → list_any (λ lock. same_key (get_or locks i d).key lock.key) (take i locks) ≡ false
      → IsDistinct same_key (lock_keys (take (i + 1) locks))
  distinct_more before none =
      subst (IsDistinct same_key) (sym one_more)
      (IsDistinct-push same_key-equiv (lock_keys (take i locks)) (get_or locks i d).key before
      (has_key-lock_keys (get_or locks i d).key (take i locks) ∙ none))

  -- or which one of them is on
  pub not_distinct : list_any (λ lock. same_key (get_or locks i d).key lock.key) (take i locks) ≡ true → IsDistinct same_key (lock_keys locks) → ⊥
  not_distinct some all = both_ways _ (last_apart (lock_keys (take i locks)) (get_or locks i d).key first) (has_key-lock_keys (get_or locks i d).key (take i locks) ∙ some)
    where
      first : IsDistinct same_key (lock_keys (take i locks) ++ (get_or locks i d).key ∷ [])
      first =
          subst (IsDistinct same_key) one_more (distinct_front (lock_keys (take (i + 1) locks)) (lock_keys (drop (i + 1) locks))
          (subst (IsDistinct same_key) (ap lock_keys (sym (take-append-drop (i + 1) locks)) ∙ map-append (λ (lock : Lock). lock.key) (take (i + 1) locks) (drop (i + 1) locks)) all))

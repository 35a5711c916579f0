-- A table of keys that grows, and what is numbered by it.
use Rattle.std.proofs.Common.{◌≡◌, ℕ, ◌+◌, ◌<◌, ◌≤◌, ◌==◌, true, false, List, [], ◌∷◌, ◌++◌, map, length, get_or, take, All, Some, refl, sym, ◌∙◌, ap, ap₂, subst, arith, eqb-true, length-append}
use Rattle.std.specs.List.{IsDistinct, AllByRecursion}
use Rattle.std.proofs.lemmas.Bool.{eqb-false, both_ways, cond_both, cond-true, false_from_ne_true}
use Rattle.std.proofs.lemmas.List.{map_more, map-append, length-map, get_or-map, get_or_append_left}
use Rattle.std.proofs.lemmas.List.Elements.{All-head, All-tail, All-push}
use Rattle.std.proofs.lemmas.List.Sums.{fold_push}
use Rattle.std.proofs.lemmas.List.Quantifiers.{position-Some}
use Rattle.std.proofs.lemmas.Map.Keys.{apart_from_distinct}
use Rattle.sol_base.specs.declared.key.Key.{Key}
use Rattle.sol_base.specs.declared.lock.Lock.{Lock}
use Rattle.bank_law.specs.Job.{same_key, has_key, lock_keys}
use Rattle.bank_law.proofs.Keys.{same_key-true, same_key-self}
use Rattle.lock_table.specs.declared.locks.NumberedLock.{NumberedLock}
use Rattle.lock_table.specs.Numbers.{number_of, with_key, with_keys, keyed_lock, Numbers, EachOnce}

abbrev pub no_key : Key
no_key = record { 0 = [] }

-- the one table begins with the other
pub record Extends (keys more : List Key) : Type 0 where
  pub longer : length keys ≤ length more
  pub same : (n : ℕ) → n < length keys → get_or more n no_key ≡ get_or keys n no_key

Extends-push : (keys : List Key) (key : Key) → Extends keys (keys ++ key ∷ [])
Extends-push keys key = record {
  longer = let l = length-append keys (key ∷ []) in omega (arith, l);
  same = λ n l. get_or_append_left keys (key ∷ []) no_key n l;
}

pub with_key-extends : (keys : List Key) (key : Key) → Extends keys (with_key keys key)
with_key-extends keys key =
    cond_both (has_key key keys) keys (keys ++ key ∷ []) (Extends keys) (λ t. record { longer = omega arith; same = λ n l. refl }) (λ f. Extends-push keys key)

pub length-with_key-le : (keys : List Key) (key : Key) → length (with_key keys key) ≤ length keys + 1
length-with_key-le keys key =
    cond_both (has_key key keys) keys (keys ++ key ∷ []) (λ ks. length ks ≤ length keys + 1) (λ t. omega arith) (λ f. let l = length-append keys (key ∷ []) in omega (arith, l))

pub with_keys-extends : (keys more : List Key) → Extends keys (with_keys keys more)
with_keys-extends keys [] = record { longer = omega arith; same = λ n l. refl }
with_keys-extends keys (key ∷ more) =
    let one = with_key-extends keys key in
    let rest = with_keys-extends (with_key keys key) more in
    record {
      longer = let a = one.longer in let b = rest.longer in omega (arith, a, b);
      same = λ n l. rest.same n (let a = one.longer in omega (arith, a)) ∙ one.same n l;
    }

keyed_lock-same : (keys more : List Key) (set : List NumberedLock) → Extends keys more → All (λ lock. lock.number < length keys) set → map (keyed_lock more) set ≡ map (keyed_lock keys) set
keyed_lock-same keys more [] e within = refl
keyed_lock-same keys more (x ∷ xs) e within =
    ap₂ (λ (key : Key) (locks : List Lock). let lock : Lock = record { key = key; write = x.write } in lock ∷ locks)
    (e.same x.number (All-head (λ lock. lock.number < length keys) x xs within))
    (keyed_lock-same keys more xs e (All-tail (λ lock. lock.number < length keys) x xs within))

-- what is numbered stays so when the table grows
pub Numbers-extends : (keys more : List Key) (locks : List Lock) (set : List NumberedLock) → Extends keys more → Numbers keys locks set → Numbers more locks set
Numbers-extends keys more locks set e n = record {
  within = λ k d l. let a = n.within k d l in let b = e.longer in omega (arith, a, b);
  stands_for = keyed_lock-same keys more set e n.within ∙ n.stands_for;
}

-- the key of a number
pub number_of-found : (keys : List Key) (key : Key) (n : ℕ) → number_of keys key ≡ Some n → (n < length keys) × (get_or keys n no_key ≡ key)
number_of-found keys key n h =
    let found = position-Some (λ k. same_key key k) keys n no_key h in
    (found.0, sym (same_key-true key (get_or keys n no_key) found.1))

-- one lock more
pub Numbers-push : (keys more : List Key) (locks : List Lock) (set : List NumberedLock) (lock : Lock) (n : ℕ)
    → more ≡ with_key keys lock.key → number_of more lock.key ≡ Some n → Numbers keys locks set
    → Numbers more (locks ++ lock ∷ []) (set ++ record { number = n; write = lock.write } ∷ [])
Numbers-push keys more locks set lock n e h numbers =
    let found = number_of-found more lock.key n h in
    let before = Numbers-extends keys more locks set (subst (Extends keys) (sym e) (with_key-extends keys lock.key)) numbers in
    let added : NumberedLock = record { number = n; write = lock.write } in
    record {
      within = All-push (λ (l : NumberedLock). l.number < length more) set added before.within found.0;
      stands_for =
          map-append (keyed_lock more) set (added ∷ [])
          ∙ ap₂ (λ (ls : List Lock) (key : Key). let last : Lock = record { key = key; write = lock.write } in ls ++ last ∷ []) before.stands_for found.1;
    }

-- one lock more on a key that has a number
pub Numbers-known : (keys : List Key) (locks : List Lock) (set : List NumberedLock) (lock : Lock) (n : ℕ)
    → has_key lock.key keys ≡ true → number_of keys lock.key ≡ Some n → Numbers keys locks set
    → Numbers keys (locks ++ lock ∷ []) (set ++ record { number = n; write = lock.write } ∷ [])
Numbers-known keys locks set lock n there h numbers = Numbers-push keys keys locks set lock n (sym (cond-true (has_key lock.key keys) keys (keys ++ lock.key ∷ []) there)) h numbers

-- one key more
pub with_keys-more : (keys : List Key) (locks : List Lock) (i : ℕ) (d : Lock) → i < length locks
    → with_keys keys (lock_keys (take (i + 1) locks))
    ≡ with_key (with_keys keys (lock_keys (take i locks))) (get_or locks i d).key
with_keys-more keys locks i d l =
    ap (with_keys keys) (map_more (λ (lock : Lock). lock.key) locks i d l) ∙ fold_push with_key keys (lock_keys (take i locks)) (get_or locks i d).key

not_among : (keys : List Key) (x : NumberedLock) (set : List NumberedLock)
    → AllByRecursion (λ key. same_key (keyed_lock keys x).key key ≡ false)
    (lock_keys (map (keyed_lock keys) set))
    → AllByRecursion (λ n. (x.number == n) ≡ false) (map (λ lock. lock.number) set)
not_among keys x [] a = tt
not_among keys x (y ∷ ys) a = (
  false_from_ne_true _ (λ t. both_ways _ a.0 (subst (λ n. same_key (keyed_lock keys x).key (get_or keys n no_key) ≡ true) (eqb-true x.number y.number t) (same_key-self (keyed_lock keys x).key))),
  not_among keys x ys a.1,
)

distinct_set : (keys : List Key) (set : List NumberedLock) → IsDistinct same_key (lock_keys (map (keyed_lock keys) set)) → IsDistinct (λ a b. a == b) (map (λ lock. lock.number) set)
unfolding IsDistinct
distinct_set keys [] a = tt
distinct_set keys (x ∷ xs) a = (not_among keys x xs a.0, distinct_set keys xs a.1)

-- distinct keys have distinct numbers
pub Numbers-distinct : (keys : List Key) (locks : List Lock) (set : List NumberedLock) → Numbers keys locks set
    → IsDistinct same_key (lock_keys locks) → IsDistinct (λ a b. a == b) (map (λ lock. lock.number) set)
Numbers-distinct keys locks set n a = distinct_set keys set (subst (λ ls. IsDistinct same_key (lock_keys ls)) (sym n.stands_for) a)

-- locks of distinct numbers have each number once
pub distinct_once : (set : List NumberedLock) → IsDistinct (λ a b. a == b) (map (λ lock. lock.number) set) → EachOnce set
distinct_once set distinct i j d l m =
    let e = length-map set (λ (lock : NumberedLock). lock.number) in
    let differ = apart_from_distinct (λ a b. a == b) (map (λ (lock : NumberedLock). lock.number) set) i j d.number distinct l (omega (arith, e, m)) in
    eqb-false _ _ (ap₂ (λ a b. a == b)
    (sym (get_or-map (λ (lock : NumberedLock). lock.number) set i d d.number (omega arith)))
    (sym (get_or-map (λ (lock : NumberedLock). lock.number) set j d d.number m)) ∙ differ)

-- Keys taken out of a state one by one, and accounts put in under keys that are absent.
use Rattle.std.proofs.Common.{◌≡◌, ℕ, ◌+◌, ◌-◌, ◌^◌, ◌<◌, ◌≤◌, List, [], ◌∷◌, ◌++◌, length, get_or, map, take, All, Option, Some, None, Bool, true, false, ◌||◌, cond, refl, sym, ap, ap₂, subst, ◌∙◌, arith}
use Rattle.std.specs.Prelude.{not, option_map}
use Rattle.std.specs.Option.{option_or}
use Rattle.std.specs.List.{AllByRecursion, IsDistinct}
use Rattle.std.specs.List.Sorted.{IsStrictlySortedBy}
use Rattle.std.specs.Arc.{arc_value}
use Rattle.std.specs.Map.{lookup, keys_of}
use Rattle.std.specs.BTreeMap.{is_at, BTreeMap, IsFromIterResult, InsertsAll}
use Rattle.std.specs.Ordering.{eq_by_cmp}
use Rattle.std.specs.Cmp.{eq_by_cmp_equiv}
use Rattle.std.specs.FinMap.{find, from_entries, get-from_entries, get-entries}
use Rattle.std.proofs.lemmas.List.{take_more, map_more, map-append, get_or-take, get_or_default, length-take-le}
use Rattle.std.proofs.lemmas.List.Folds.{list_any-append, list_any_none}
use Rattle.std.proofs.lemmas.List.Elements.{All-head, All-tail}
use Rattle.std.proofs.lemmas.List.Sums.{sum_by-cons}
use Rattle.std.proofs.lemmas.Map.Keys.{IsDistinct-head, IsDistinct-tail, IsDistinct-from_sorted, apart_from_distinct}
use Rattle.std.proofs.lemmas.Map.Made.{update_all_distinct, update_all_none}
use Rattle.sol_base.specs.declared.key.Key.{Key}
use Rattle.sol_base.specs.declared.account.Account.{Account}
use Rattle.sol_base.specs.Keys.{key_cmp, same_key, has_key}
use Rattle.sol_base.specs.Accounts.{empty_account}
use Rattle.sol_base.proofs.KeyLaws.{key_cmp_exact, key_cmp_total, same_cmp, same_key-sym}
use Rattle.account_store.specs.State.{State, get, at, remove, without, with_entries, lamports_of, sum, IsHeld, IsState, entries}
use Rattle.account_store.specs.Shared.{Shared, seen, state_seen, IsKept}
use Rattle.account_store.proofs.EntryLists.{from_entries-entries}
use Rattle.account_store.proofs.StateLaws.{same_state, get-remove_key, IsState-insert, sum-insert}
use Rattle.account_store.proofs.SharedLaws.{get-state_seen, entries-state_seen}
use Rattle.account_store.proofs.Walks.{Entries, weight, get-without}

-- no key is taken out
pub without-none : (s : State) → s ≡ without s []
without-none s = same_state _ _ (λ q. sym (get-without s [] q))

-- one key more
pub without-more : (s : State) (keys : List Key) (k : Key) → remove (without s keys) k ≡ without s (keys ++ k ∷ [])
without-more s keys k = same_state _ _ (λ q.
    get-remove_key (without s keys) k q ∙ ap (λ o. cond (same_key q k) None o) (get-without s keys q)
    ∙ both (same_key q k) (has_key q keys) (get s q)
    ∙ ap (λ b. cond (not b) (get s q) None) (sym (list_any-append (λ x. same_key q x) keys (k ∷ [])))
    ∙ sym (get-without s (keys ++ k ∷ []) q))
  where
    both : (a b : Bool) (o : Option Account) → cond a None (cond (not b) o None) ≡ cond (not (b || (a || false))) o None
    both true true o = refl
    both true false o = refl
    both false true o = refl
    both false false o = refl

-- how far the keys are taken out
pub record RemovedSoFar (start now : State) (keys : List Key) (taken : List (Option Shared)) : Type 0 where
  pub found : map (option_map arc_value) taken ≡ map (get start) keys
  pub rest : now ≡ without start keys

pub removed_first : (start : State) (taken : List (Option Shared)) → taken ≡ [] → RemovedSoFar start start [] taken
removed_first start taken none = record { found = ap (map (option_map arc_value)) none; rest = without-none start }

-- no key stands before its place
pub not_before : (ks : List Key) (n : ℕ) (d : Key) → n < length ks → IsDistinct same_key ks → has_key (get_or ks n d) (take n ks) ≡ false
not_before ks n d below distinct =
    list_any_none (λ k. same_key (get_or ks n d) k) (take n ks) (λ k e l.
    let long : k < n = subst (λ m. k < m) (length-take-le n ks (omega (arith, below))) l in
    ap (λ x. same_key (get_or ks n d) x) (get_or-take n ks k e long) ∙ same_key-sym (get_or ks n d) (get_or ks k e)
    ∙ ap (λ x. same_key (get_or ks k e) x) (get_or_default ks n d e below) ∙ apart_from_distinct same_key ks k n e distinct long below)

pub removed_next : (start now next : State) (keys : List Key) (n : ℕ) (d : Key)
    (taken more : List (Option Shared)) (o : Option Shared) → n < length keys
    → has_key (get_or keys n d) (take n keys) ≡ false → RemovedSoFar start now (take n keys) taken
    → option_map arc_value o ≡ get now (get_or keys n d) → next ≡ remove now (get_or keys n d) → more ≡ taken ++ o ∷ [] → RemovedSoFar start next (take (n + 1) keys) more
removed_next start now next keys n d taken more o below apart R found removed pushed = record {
  found =
      ap (map (option_map arc_value)) pushed ∙ map-append (option_map arc_value) taken (o ∷ [])
      ∙ ap₂ (λ (os : List (Option Account)) (x : Option Account). os ++ x ∷ []) R.found
      (found ∙ ap (λ s. get s k) R.rest ∙ get-without start (take n keys) k
      ∙ ap (λ b. cond (not b) (get start k) None) apart)
      ∙ sym (map_more (get start) keys n d below);
  rest = removed ∙ ap (λ s. remove s k) R.rest ∙ without-more start (take n keys) k ∙ ap (without start) (sym (take_more keys n d below));
}
  where
    k : Key
    k = get_or keys n d

-- accounts under other keys, and then these
lookup-append : (test : Key → Bool) (xs es : Entries) → lookup test (xs ++ es) ≡ option_or (lookup test xs) (lookup test es)
lookup-append test [] es = refl
lookup-append test (x ∷ xs) es = ap (λ o. cond (test x.0) (Some x.1) o) (lookup-append test xs es) ∙ chosen (test x.0)
  where
    chosen : (b : Bool) → cond b (Some x.1) (option_or (lookup test xs) (lookup test es)) ≡ option_or (cond b (Some x.1) (lookup test xs)) (lookup test es)
    chosen true = refl
    chosen false = refl

pub with_entries-seen : (xs es : Entries) → IsStrictlySortedBy key_cmp (keys_of es) → with_entries (state_seen es) (seen xs) ≡ state_seen (xs ++ es)
with_entries-seen xs es up =
    ap (λ (l : List (Key × Account)). from_entries {R = key_cmp} (seen xs ++ l)) (entries-state_seen es up)
    ∙ ap (λ (l : List (Key × Account)). from_entries {R = key_cmp} l) (sym (map-append (λ (e : Key × Shared). (e.0, arc_value e.1)) xs es))

-- tests of keys that agree
distinct_by : (keys : List Key) → IsDistinct same_key keys → IsDistinct (eq_by_cmp key_cmp) keys
unfolding IsDistinct
distinct_by [] d = tt
distinct_by (k ∷ ks) d = (apart ks d.0, distinct_by ks d.1)
  where
    apart : (xs : List Key) → AllByRecursion (λ y. same_key k y ≡ false) xs → AllByRecursion (λ y. eq_by_cmp key_cmp k y ≡ false) xs
    apart [] h = tt
    apart (x ∷ xs) h = (same_cmp k x ∙ h.0, apart xs h.1)

-- the map that more entries were moved into
pub joined : (es fs : Entries) (xs : Entries) (tree more after : BTreeMap Key Shared) → tree.entries ≡ es → IsStrictlySortedBy key_cmp (keys_of es) → IsDistinct same_key (keys_of xs)
    → IsFromIterResult key_cmp xs more → InsertsAll key_cmp tree more.entries after → after.entries ≡ fs → state_seen fs ≡ with_entries (state_seen es) (seen xs)
joined es fs xs tree more after is up distinct made moved end =
    same_state _ _ (λ q.
    get-state_seen fs q ∙ ap (λ l. option_map arc_value (lookup (is_at (key_cmp q)) l)) (sym end)
    ∙ ap (option_map arc_value) (
    moved.0 q ∙ update_all_distinct (eq_by_cmp_equiv key_cmp_total) (eq_by_cmp key_cmp) (λ x y. refl)
    (λ k. lookup (is_at (key_cmp k)) tree.entries) more.entries q
    (IsDistinct-from_sorted key_cmp (keys_of more.entries) made.1)
    ∙ ap₂ (λ o p. option_or o p)
    (made.0 q ∙ update_all_none (eq_by_cmp_equiv key_cmp_total) (eq_by_cmp key_cmp) (λ x y. refl) xs q
    (distinct_by (keys_of xs) distinct)) (ap (λ l. lookup (is_at (key_cmp q)) l) is)
    ∙ sym (lookup-append (is_at (key_cmp q)) xs es))
    ∙ sym (get-state_seen (xs ++ es) q))
    ∙ sym (with_entries-seen xs es up)

-- the state that more accounts were put into
find-apart : (k : Key) (ys : List (Key × Account)) (zs : List (Key × Account)) → AllByRecursion (λ y. same_key k y ≡ false) (keys_of ys) → find key_cmp k zs ≡ None → find key_cmp k (ys ++ zs) ≡ None
find-apart k [] zs apart none = none
find-apart k (y ∷ ys) zs apart none = ap (λ b. cond b (Some y.1) (find key_cmp k (ys ++ zs))) (same_cmp k y.0 ∙ apart.0) ∙ find-apart k ys zs apart.1 none

-- what holds of accounts that are put in
pub record ArePut (s : State) (ys : List (Key × Account)) : Type 0 where
  pub distinct : IsDistinct same_key (keys_of ys)
  pub absent : AllByRecursion (λ y. get s y.0 ≡ None) ys
  pub held : AllByRecursion (λ y. IsHeld y.1) ys

still_absent : (s : State) (y : Key × Account) (ys : List (Key × Account)) → ArePut s (y ∷ ys) → at (with_entries s ys) y.0 ≡ empty_account
still_absent s y ys P =
    let found : get (with_entries s ys) y.0 ≡ None = get-from_entries key_cmp_total (ys ++ entries s) y.0
    ∙ find-apart y.0 ys (entries s) (IsDistinct-head same_key y.0 (keys_of ys) P.distinct)
    (sym (get-entries s y.0) ∙ P.absent.0) in
    rw found refl

pub sum-with : (s : State) (ys : List (Key × Account)) → IsState s → ArePut s ys
    → sum s + lamports_of ys ≤ 2 ^ 64 - 1
    → IsState (with_entries s ys) × (sum (with_entries s ys) ≡ sum s + lamports_of ys)
sum-with s [] is P fits = (subst IsState (sym same) is, ap sum same ∙ omega arith)
  where
    same : with_entries s [] ≡ s
    same = from_entries-entries key_cmp_total key_cmp_exact s
sum-with s (y ∷ ys) is P fits =
    let weighs = sum_by-cons (λ (e : Key × Account). e.1.lamports) y ys in
    let rest = sum-with s ys is (record { distinct = IsDistinct-tail same_key y.0 (keys_of ys) P.distinct; absent = P.absent.1; held = P.held.1 }) (omega (arith, weighs, fits)) in
    let more = sum-insert (with_entries s ys) y.0 y.1 in
    let none = ap (λ (a : Account). a.lamports) (still_absent s y ys P) in
    let before = rest.1 in
    let grown : sum (with_entries s (y ∷ ys)) ≡ sum s + lamports_of (y ∷ ys) = omega (arith, weighs, more, none, before) in
    (IsState-insert (with_entries s ys) y.0 y.1 rest.0 P.held.0 (omega (arith, grown, fits)), grown)

-- by recursion, from what holds at each place
recursed : {X : Type 0} (P : X → Type 0) (xs : List X) → All P xs → AllByRecursion P xs
recursed P [] all = tt
recursed P (x ∷ xs) all = (All-head P x xs all, recursed P xs (All-tail P x xs all))

seen_absent : (s : State) (xs : Entries) → AllByRecursion (λ e. get s e.0 ≡ None) xs → AllByRecursion (λ y. get s y.0 ≡ None) (seen xs)
seen_absent s [] h = tt
seen_absent s (x ∷ xs) h = (h.0, seen_absent s xs h.1)

seen_held : (xs : Entries) → AllByRecursion (λ e. IsHeld (arc_value e.1)) xs → AllByRecursion (λ y. IsHeld y.1) (seen xs)
seen_held [] h = tt
seen_held (x ∷ xs) h = (h.0, seen_held xs h.1)

keys-seen_is : (xs : Entries) → keys_of (seen xs) ≡ keys_of xs
keys-seen_is [] = refl
keys-seen_is (x ∷ xs) = ap (λ (ks : List Key). x.0 ∷ ks) (keys-seen_is xs)

pub are_put : (s : State) (xs : Entries) → IsDistinct same_key (keys_of xs) → All (λ e. get s e.0 ≡ None) xs → All (λ e. IsHeld (arc_value e.1)) xs → ArePut s (seen xs)
are_put s xs distinct absent held = record {
  distinct = subst (IsDistinct same_key) (sym (keys-seen_is xs)) distinct;
  absent = seen_absent s xs (recursed (λ e. get s e.0 ≡ None) xs absent);
  held = seen_held xs (recursed (λ (e : Key × Shared). IsHeld (arc_value e.1)) xs held);
}

-- what is kept after that
pub IsKept-joined : (es fs xs : Entries) (s : State) (total n : ℕ) → IsKept es total → state_seen es ≡ s → ArePut s (seen xs) → sum s + weight xs ≤ 2 ^ 64 - 1 → IsStrictlySortedBy key_cmp (keys_of fs)
    → state_seen fs ≡ with_entries (state_seen es) (seen xs) → n ≡ total + weight xs → IsKept fs n
IsKept-joined es fs xs s total n is same put fits up joins counted =
    let all = sum-with s (seen xs) (subst IsState same is.is_state) put fits in
    let after : state_seen fs ≡ with_entries s (seen xs) = joins ∙ ap (λ t. with_entries t (seen xs)) same in
    record {
      ascends = up;
      counted = let c = is.counted in let e = ap sum same in let a = all.1 in let f = ap sum after in omega (arith, counted, c, e, a, f);
      is_state = subst IsState (sym after) all.0;
    }

-- the store that more entries were moved into
pub record IsJoined (fs : Entries) (s : State) (xs : Entries) (n : ℕ) : Type 0 where
  pub accounts : state_seen fs ≡ with_entries s (seen xs)
  pub kept : IsKept fs n

pub joined_all : (tree more after : BTreeMap Key Shared) (xs : Entries) (s : State) (total n : ℕ)
    → IsKept tree.entries total → state_seen tree.entries ≡ s → ArePut s (seen xs)
    → sum s + weight xs ≤ 2 ^ 64 - 1 → IsDistinct same_key (keys_of xs)
    → IsFromIterResult key_cmp xs more → InsertsAll key_cmp tree more.entries after → n ≡ total + weight xs → IsJoined after.entries s xs n
joined_all tree more after xs s total n is same put fits distinct made moved counted =
    let joins = joined tree.entries after.entries xs tree more after refl is.ascends distinct made moved refl in
    record {
      accounts = joins ∙ ap (λ t. with_entries t (seen xs)) same;
      kept = IsKept-joined tree.entries after.entries xs s total n is same put fits moved.1 joins counted;
    }

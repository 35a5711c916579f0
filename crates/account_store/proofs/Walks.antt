-- A walk over entries and over keys that are asked for, both ascending.
use Rattle.std.proofs.Common.{◌≡◌, ℕ, zero, suc, ◌+◌, ◌-◌, ◌<◌, ◌≤◌, List, [], ◌∷◌, ◌++◌, length, get_or, map, take, drop, replicate, Option, Some, None, Bool, true, false, ◌||◌, cond, refl, sym, ap, ap₂, subst, ◌∙◌, arith, append_assoc}
use Rattle.std.specs.Prelude.{filter, not, slice_get, option_map}
use Rattle.std.specs.Option.{option_map_or, option_to_list}
use Rattle.std.specs.List.{AllByRecursion}
use Rattle.std.specs.List.Sorted.{IsStrictlySortedBy}
use Rattle.std.specs.Arc.{arc_value}
use Rattle.std.specs.Map.{lookup, keys_of}
use Rattle.std.specs.Map.Iter.{TakesFirst}
use Rattle.std.specs.BTreeMap.{is_at, BTreeMap, IsFromIterResult}
use Rattle.std.specs.Ordering.{eq_by_cmp, is_eq}
use Rattle.std.specs.Cmp.{eq_by_cmp_equiv, Equal-is}
use Rattle.std.specs.FinMap.{get-retain_keys}
use Rattle.std.specs.declared.cmp.Ordering.{Ordering}
use Rattle.std.specs.declared.cmp.Ordering.TheVariants.{Less, Equal, Greater}
use Rattle.std.proofs.lemmas.Bool.{or_from, or_left, cond-true, cond-false}
use Rattle.std.proofs.lemmas.List.{drop-drop, append-nil, map-append, take_more, take-append-drop}
use Rattle.std.proofs.lemmas.List.Sums.{sum_by-cons, sum_by_push, sum_by-append}
use Rattle.std.proofs.lemmas.List.Kept.{IsStrictlySortedBy-filter}
use Rattle.std.proofs.lemmas.Map.{NonePasses, lookup-none}
use Rattle.std.proofs.lemmas.Map.Entries.{none_below_head, lookup-filter-keys}
use Rattle.std.proofs.lemmas.Map.Keys.{sorted_head, sorted_tail, IsDistinct-from_sorted}
use Rattle.std.proofs.lemmas.Map.Made.{update_all_none}
use Rattle.std.specs.FinMap.Entries.{same_entries}
use Rattle.account_store.proofs.EntryLists.{find-lookup, is_sorted-from_sorted}
use Rattle.sol_base.specs.declared.key.Key.{Key}
use Rattle.sol_base.specs.declared.account.Account.{Account}
use Rattle.sol_base.specs.Keys.{key_cmp, same_key, has_key}
use Rattle.sol_base.proofs.KeyLaws.{key_cmp_exact, key_cmp_total, same_cmp, same_key-self}
use Rattle.account_store.specs.State.{State, get, without, lamports_of, IsHeld}
use Rattle.account_store.specs.Shared.{Shared, seen, state_seen, IsKept}
use Rattle.account_store.proofs.StateLaws.{same_state}
use Rattle.account_store.proofs.SharedLaws.{get-state_seen, entries-state_seen}

abbrev pub Entries : Type 0
Entries = List (Key × Shared)

-- what the keys find, and the entries of other keys
abbrev pub found_in : Entries → List Key → List (Option Shared)
found_in es keys = map (λ k. lookup (is_at (key_cmp k)) es) keys

abbrev pub others : List Key → Entries → Entries
others keys es = filter (λ e. not (has_key e.0 keys)) es

abbrev pub weight : Entries → ℕ
weight es = lamports_of (seen es)

-- how the first of the keys compares to another
abbrev pub order_of : List Key → Key → Ordering
order_of [] key = Greater
order_of (k ∷ ks) key = key_cmp k key

pub order_at-is : (keys : List Key) (n : ℕ) (key : Key) → option_map_or (λ k. key_cmp k key) (slice_get keys n) Greater ≡ order_of (drop n keys) key
order_at-is [] zero key = refl
order_at-is [] (suc n) key = refl
order_at-is (k ∷ ks) zero key = refl
order_at-is (k ∷ ks) (suc n) key = order_at-is ks n key

sorted_drop : (ks : List Key) (n : ℕ) → IsStrictlySortedBy key_cmp ks → IsStrictlySortedBy key_cmp (drop n ks)
sorted_drop [] zero h = h
sorted_drop [] (suc n) h = h
sorted_drop (k ∷ ks) zero h = h
sorted_drop (k ∷ ks) (suc n) h = sorted_drop ks n (sorted_tail key_cmp k ks h)

-- keys of which one is below the other are two
less_differ : (a b : Key) → key_cmp a b ≡ Less → is_at (key_cmp a) b ≡ false
less_differ a b e = ap is_eq e

differ_back : (a b : Key) → is_at (key_cmp a) b ≡ false → is_at (key_cmp b) a ≡ false
differ_back a b e = (eq_by_cmp_equiv key_cmp_total).symm b a ∙ e

same_back : (a b : Key) → is_at (key_cmp a) b ≡ false → same_key b a ≡ false
same_back a b e = sym (same_cmp b a) ∙ differ_back a b e

-- a key that no entry has
others-absent : (k : Key) (ks : List Key) (es : Entries) → NonePasses (is_at (key_cmp k)) es → others (k ∷ ks) es ≡ others ks es
others-absent k ks [] none = refl
others-absent k ks (e ∷ es) none =
    ap₂ (λ b rest. cond (not (b || has_key e.0 ks)) (e ∷ rest) rest) (same_back k e.0 none.0) (others-absent k ks es none.1)

-- an entry whose key is none of those that are asked for
found_in-other : (e : Key × Shared) (es : Entries) (ks : List Key) → AllByRecursion (λ k. is_at (key_cmp k) e.0 ≡ false) ks → found_in (e ∷ es) ks ≡ found_in es ks
found_in-other e es [] none = refl
found_in-other e es (k ∷ ks) none = ap₂ (λ (o : Option Shared) (os : List (Option Shared)). o ∷ os) (cond-false (is_at (key_cmp k) e.0) (Some e.1) _ none.0) (found_in-other e es ks none.1)

not_among : (key : Key) (ks : List Key) → AllByRecursion (λ k. is_at (key_cmp k) key ≡ false) ks → has_key key ks ≡ false
not_among key [] none = refl
not_among key (k ∷ ks) none = or_from (same_key key k) (has_key key ks) (same_back k key none.0) (not_among key ks none.1)

all_map : {P Q : Key → Type 0} → ((k : Key) → P k → Q k) → (ks : List Key) → AllByRecursion P ks → AllByRecursion Q ks
all_map f [] h = tt
all_map f (k ∷ ks) h = (f k h.0, all_map f ks h.1)

all_keys : (P : Key → Type 0) (es : Entries) → AllByRecursion P (keys_of es) → AllByRecursion (λ e. P e.0) es
all_keys P [] h = tt
all_keys P (e ∷ es) h = (h.0, all_keys P es h.1)

abbrev Ascend : Entries → Type 0
Ascend es = IsStrictlySortedBy key_cmp (keys_of es)

-- the first entry's key is above the first key that is asked for, which is absent
pub step_less : (asked : List Key) (e : Key × Shared) (es : Entries) → order_of asked e.0 ≡ Less → Ascend (e ∷ es)
    → (found_in (e ∷ es) asked ≡ None ∷ found_in (e ∷ es) (drop 1 asked)) × (others asked (e ∷ es) ≡ others (drop 1 asked) (e ∷ es))
step_less [] e es less up = absurd (cc)
step_less (k ∷ ks) e es less up =
    let none = none_below_head key_cmp_total k e es up less in
    (ap (λ (o : Option Shared). o ∷ found_in (e ∷ es) ks) (lookup-none (is_at (key_cmp k)) (e ∷ es) none), others-absent k ks (e ∷ es) none)

-- it is the first key that is asked for
pub step_equal : (asked : List Key) (e : Key × Shared) (es : Entries) → IsStrictlySortedBy key_cmp asked → order_of asked e.0 ≡ Equal → Ascend (e ∷ es)
    → (found_in (e ∷ es) asked ≡ Some e.1 ∷ found_in es (drop 1 asked)) × (others asked (e ∷ es) ≡ others (drop 1 asked) es)
step_equal [] e es sorted equal up = absurd (cc)
step_equal (k ∷ ks) e es sorted equal up = (
  ap₂ (λ (o : Option Shared) (os : List (Option Shared)). o ∷ os) (cond-true (is_at (key_cmp k) e.0) (Some e.1) _ (ap is_eq equal)) (found_in-other e es ks later),
  cond-false (not (has_key e.0 (k ∷ ks))) (e ∷ others (k ∷ ks) es) (others (k ∷ ks) es) (ap not here) ∙ others-absent k ks es behind,
)
  where
    one : k ≡ e.0
    one = key_cmp_exact k e.0 equal

    here : has_key e.0 (k ∷ ks) ≡ true
    here = or_left (same_key e.0 k) (has_key e.0 ks) (subst (λ x. same_key e.0 x ≡ true) (sym one) (same_key-self e.0))

    later : AllByRecursion (λ x. is_at (key_cmp x) e.0 ≡ false) ks
    later = all_map (λ x l. differ_back e.0 x (less_differ e.0 x (subst (λ y. key_cmp y x ≡ Less) one l))) ks (sorted_head key_cmp k ks sorted)

    behind : NonePasses (is_at (key_cmp k)) es
    behind = all_keys (λ x. is_at (key_cmp k) x ≡ false) es (all_map (λ x l. less_differ k x (subst (λ y. key_cmp y x ≡ Less) (sym one) l)) (keys_of es) (sorted_head key_cmp e.0 (keys_of es) up))

-- it is below all keys that are asked for
pub step_greater : (asked : List Key) (e : Key × Shared) (es : Entries) → IsStrictlySortedBy key_cmp asked → order_of asked e.0 ≡ Greater
    → (found_in (e ∷ es) asked ≡ found_in es asked) × (others asked (e ∷ es) ≡ e ∷ others asked es)
step_greater [] e es sorted above = (refl, refl)
step_greater (k ∷ ks) e es sorted above =
    let none : AllByRecursion (λ x. is_at (key_cmp x) e.0 ≡ false) (k ∷ ks) = (ap is_eq above, all_map later ks (sorted_head key_cmp k ks sorted)) in
    (found_in-other e es (k ∷ ks) none, cond-true (not (has_key e.0 (k ∷ ks))) (e ∷ others (k ∷ ks) es) (others (k ∷ ks) es) (ap not (not_among e.0 (k ∷ ks) none)))
  where
    later : (x : Key) → key_cmp k x ≡ Less → is_at (key_cmp x) e.0 ≡ false
    later x l = by_order (key_cmp x e.0) refl
      where
        by_order : (o : Ordering) → key_cmp x e.0 ≡ o → is_eq o ≡ false
        by_order Less is = refl
        by_order Equal is = let less : key_cmp k e.0 ≡ Less = subst (λ y. key_cmp k y ≡ Less) (key_cmp_exact x e.0 is) l in absurd (cc (less, above))
        by_order Greater is = refl

-- how far the walk has come: what is left of the entries and of the keys gives the rest
pub record WalkedSoFar (keys : List Key) (all left : Entries) (taken : List (Option Shared)) (rest : Entries) (total : ℕ) : Type 0 where
  pub found : taken ++ found_in left (drop (length taken) keys) ≡ found_in all keys
  pub apart : rest ++ others (drop (length taken) keys) left ≡ others keys all
  pub ascends : Ascend left
  pub counted : total ≡ weight rest + weight left

pub walk_first : (keys : List Key) (all es : Entries) (taken : List (Option Shared)) (rest : Entries)
    (total : ℕ) → all ≡ es → taken ≡ [] → rest ≡ [] → IsKept es total
    → WalkedSoFar keys all all taken rest total
walk_first keys all es taken rest total whole none nil is = record {
  found = ap (λ os. os ++ found_in all (drop (length os) keys)) none;
  apart = ap₂ (λ l os. l ++ others (drop (length os) keys) all) nil none;
  ascends = subst Ascend (sym whole) is.ascends;
  counted =
      let c = is.counted in
      let e = ap lamports_of (entries-state_seen es is.ascends) in
      let w = ap weight whole in
      let z = ap weight nil in
      omega (arith, c, e, w, z);
}

pub weight-cons : (e : Key × Shared) (es : Entries) → weight (e ∷ es) ≡ (let a : Account = arc_value e.1 in a.lamports) + weight es
weight-cons e es = sum_by-cons (λ (d : Key × Account). d.1.lamports) (e.0, arc_value e.1) (seen es)

weight-push : (es : Entries) (e : Key × Shared) → weight (es ++ e ∷ []) ≡ weight es + (let a : Account = arc_value e.1 in a.lamports)
weight-push es e = ap lamports_of (map-append (λ (d : Key × Shared). (d.0, arc_value d.1)) es (e ∷ [])) ∙ sum_by_push (λ (d : Key × Account). d.1.lamports) (seen es) (e.0, arc_value e.1)

pub one_more : {X : Type 0} (xs : List X) (x : X) → length (xs ++ x ∷ []) ≡ length xs + 1
one_more xs x = let l = length_push_is xs x in l
  where
    length_push_is : {X : Type 0} (xs : List X) (x : X) → length (xs ++ x ∷ []) ≡ length xs + 1
    length_push_is [] x = refl
    length_push_is (y ∷ ys) x = let l = length_push_is ys x in omega (arith, l)

module _ (keys : List Key) (sorted : IsStrictlySortedBy key_cmp keys) (all : Entries) (key : Key) (share : Shared) (es : Entries) (taken : List (Option Shared)) (rest : Entries) (total : ℕ)
    (W : WalkedSoFar keys all ((key, share) ∷ es) taken rest total) where
  next_asked : (o : Option Shared) → drop (length (taken ++ o ∷ [])) keys ≡ drop 1 (drop (length taken) keys)
  next_asked o = ap (λ n. drop n keys) (one_more taken o) ∙ sym (drop-drop 1 (length taken) keys)

  asked_sorted : IsStrictlySortedBy key_cmp (drop (length taken) keys)
  asked_sorted = sorted_drop keys (length taken) sorted

  -- how the next key that is asked for compares
  module _ (n : ℕ) (len : n ≡ length taken) (o : Ordering) (told : o ≡ option_map_or (λ k. key_cmp k key) (slice_get keys n) Greater) where
    order_is : o ≡ order_of (drop (length taken) keys) key
    order_is = told ∙ order_at-is keys n key ∙ ap (λ m. order_of (drop m keys) key) len

    pub walk_absent : (more : List (Option Shared)) → o ≡ Less → more ≡ taken ++ None ∷ [] → WalkedSoFar keys all ((key, share) ∷ es) more rest total
    walk_absent more less pushed =
        let step = step_less (drop (length taken) keys) (key, share) es (sym order_is ∙ less) W.ascends in
        subst (λ os. WalkedSoFar keys all ((key, share) ∷ es) os rest total) (sym pushed) (record {
          found = ap (λ ks. (taken ++ None ∷ []) ++ found_in ((key, share) ∷ es) ks) (next_asked None) ∙ append_assoc taken (None ∷ []) _ ∙ ap (λ os. taken ++ os) (sym step.0) ∙ W.found;
          apart = ap (λ ks. rest ++ others ks ((key, share) ∷ es)) (next_asked None) ∙ ap (λ l. rest ++ l) (sym step.1) ∙ W.apart;
          ascends = W.ascends;
          counted = W.counted;
        })

    pub walk_found : (left : Entries) (more : List (Option Shared)) (less : ℕ) → o ≡ Equal
        → (let a : Account = arc_value share in less ≡ total - a.lamports) → more ≡ taken ++ Some share ∷ []
        → es ≡ left → WalkedSoFar keys all left more rest less
    walk_found left more less equal fewer pushed same =
        let step = step_equal (drop (length taken) keys) (key, share) es asked_sorted (sym order_is ∙ equal) W.ascends in
        subst (λ l. WalkedSoFar keys all l more rest less) same (subst (λ os. WalkedSoFar keys all es os rest less) (sym pushed) (record {
          found = ap (λ ks. (taken ++ Some share ∷ []) ++ found_in es ks) (next_asked (Some share)) ∙ append_assoc taken (Some share ∷ []) _ ∙ ap (λ os. taken ++ os) (sym step.0) ∙ W.found;
          apart = ap (λ ks. rest ++ others ks es) (next_asked (Some share)) ∙ ap (λ l. rest ++ l) (sym step.1) ∙ W.apart;
          ascends = sorted_tail key_cmp key (keys_of es) W.ascends;
          counted = let w = weight-cons (key, share) es in let t = W.counted in omega (arith, w, t, fewer);
        }))

    pub walk_other : (left more : Entries) → o ≡ Greater → more ≡ rest ++ (key, share) ∷ [] → es ≡ left → WalkedSoFar keys all left taken more total
    walk_other left more above pushed same =
        let step = step_greater (drop (length taken) keys) (key, share) es asked_sorted (sym order_is ∙ above) in
        subst (λ l. WalkedSoFar keys all l taken more total) same (subst (λ l. WalkedSoFar keys all es taken l total) (sym pushed) (record {
          found = ap (λ os. taken ++ os) (sym step.0) ∙ W.found;
          apart = append_assoc rest ((key, share) ∷ []) _ ∙ ap (λ l. rest ++ l) (sym step.1) ∙ W.apart;
          ascends = sorted_tail key_cmp key (keys_of es) W.ascends;
          counted = let w = weight-cons (key, share) es in let p = weight-push rest (key, share) in let t = W.counted in omega (arith, w, p, t);
        }))

    -- a key that is asked for is left
    pub walk_shorter : o ≡ Less → n < length keys
    walk_shorter less = within keys n (sym told ∙ less)
      where
        within : (ks : List Key) (m : ℕ) → option_map_or (λ k. key_cmp k key) (slice_get ks m) Greater ≡ Less → m < length ks
        within [] zero e = absurd (cc)
        within [] (suc m) e = absurd (cc)
        within (k ∷ ks) zero e = omega arith
        within (k ∷ ks) (suc m) e = let l = within ks m e in omega (arith, l)

found_in-none : (keys : List Key) (n : ℕ) → found_in [] (drop n keys) ≡ replicate (length keys - n) None
found_in-none [] zero = refl
found_in-none [] (suc n) = let none : 0 ≡ 0 - suc n = omega arith in ap (λ m. replicate m None) none
found_in-none (k ∷ ks) zero = let more : suc (length ks - 0) ≡ suc (length ks) - 0 = omega arith
    in ap (λ (os : List (Option Shared)). None ∷ os) (found_in-none ks zero) ∙ ap (λ m. replicate m None) more
found_in-none (k ∷ ks) (suc n) = let less : length ks - n ≡ suc (length ks) - suc n = omega arith in found_in-none ks n ∙ ap (λ m. replicate m None) less

-- the end of the walk
module _ (keys : List Key) (all : Entries) (taken : List (Option Shared)) (rest : Entries) (total : ℕ) (W : WalkedSoFar keys all [] taken rest total) where
  pub walk_all : taken ++ replicate (length keys - length taken) None ≡ found_in all keys
  walk_all = ap (λ os. taken ++ os) (sym (found_in-none keys (length taken))) ∙ W.found

  pub walk_rest : rest ≡ others keys all
  walk_rest = sym (append-nil rest) ∙ W.apart

  pub walk_total : total ≡ weight rest
  walk_total = let t = W.counted in omega (arith, t)

pub taken_first : {X : Type 0} (s t : List X) (r : Option X) → TakesFirst (λ x. x) s r t → s ≡ option_to_list r ++ t
taken_first s t None h = h.0 ∙ sym h.1
taken_first s t (Some x) h = h

pub nothing_left : {X : Type 0} (s t : List X) (r : Option X) → TakesFirst (λ x. x) s r t → r ≡ None → t ≡ []
nothing_left s t None h e = h.1
nothing_left s t (Some x) h e = absurd (cc)

-- what the keys find, as accounts
pub found_in-seen : (es : Entries) (keys : List Key) → map (option_map arc_value) (found_in es keys) ≡ map (get (state_seen es)) keys
found_in-seen es [] = refl
found_in-seen es (k ∷ ks) = ap₂ (λ (o : Option Account) (os : List (Option Account)). o ∷ os) (sym (get-state_seen es k)) (found_in-seen es ks)

-- the state without keys
same_test : (q : Key) (keys : List Key) (x : Key) → key_cmp q x ≡ Equal → not (has_key x keys) ≡ not (has_key q keys)
same_test q keys x e = ap (λ k. not (has_key k keys)) (sym (key_cmp_exact q x e))

pub get-without : (s : State) (keys : List Key) (q : Key) → get (without s keys) q ≡ cond (not (has_key q keys)) (get s q) None
get-without s keys q = get-retain_keys s (λ k. not (has_key k keys)) q (same_test q keys)

inside : (b : Bool) (o : Option Shared) → option_map arc_value (cond b o None) ≡ cond b (option_map arc_value o) None
inside true o = refl
inside false o = refl

pub without-seen : (es : Entries) (keys : List Key) → state_seen (others keys es) ≡ without (state_seen es) keys
without-seen es keys = same_state _ _ (λ q.
    get-state_seen (others keys es) q
    ∙ ap (option_map arc_value) (lookup-filter-keys (is_at (key_cmp q)) (λ k. not (has_key k keys)) (not (has_key q keys)) (λ k t. same_test q keys k ((Equal-is (key_cmp q k)).0 t)) es)
    ∙ inside (not (has_key q keys)) (lookup (is_at (key_cmp q)) es)
    ∙ ap (λ o. cond (not (has_key q keys)) o None) (sym (get-state_seen es q))
    ∙ sym (get-without (state_seen es) keys q))

keys-others : (keys : List Key) (es : Entries) → keys_of (others keys es) ≡ filter (λ k. not (has_key k keys)) (keys_of es)
keys-others keys [] = refl
keys-others keys (e ∷ es) = by_test (not (has_key e.0 keys)) (keys-others keys es)
  where
    by_test : (b : Bool) → keys_of (others keys es) ≡ filter (λ k. not (has_key k keys)) (keys_of es)
        → keys_of (cond b (e ∷ others keys es) (others keys es))
        ≡ cond b (e.0 ∷ filter (λ k. not (has_key k keys)) (keys_of es))
        (filter (λ k. not (has_key k keys)) (keys_of es))
    by_test true rest = ap (λ (ks : List Key). e.0 ∷ ks) rest
    by_test false rest = rest

pub ascend-others : (keys : List Key) (es : Entries) → Ascend es → Ascend (others keys es)
ascend-others keys es up = subst (IsStrictlySortedBy key_cmp) (sym (keys-others keys es)) (IsStrictlySortedBy-filter key_cmp (λ k. not (has_key k keys)) (keys_of es) up)

all-others : (keys : List Key) (es : Entries) → AllByRecursion (λ e. IsHeld e.1) (seen es) → AllByRecursion (λ e. IsHeld e.1) (seen (others keys es))
all-others keys [] h = tt
all-others keys (e ∷ es) h = by_test (not (has_key e.0 keys)) (all-others keys es h.1)
  where
    by_test : (b : Bool) → AllByRecursion (λ d. IsHeld d.1) (seen (others keys es)) → AllByRecursion (λ d. IsHeld d.1) (seen (cond b (e ∷ others keys es) (others keys es)))
    by_test true rest = (h.0, rest)
    by_test false rest = rest

weight-others : (keys : List Key) (es : Entries) → weight (others keys es) ≤ weight es
weight-others keys [] = omega arith
weight-others keys (e ∷ es) = by_test (not (has_key e.0 keys)) (weight-others keys es)
  where
    by_test : (b : Bool) → weight (others keys es) ≤ weight es → weight (cond b (e ∷ others keys es) (others keys es)) ≤ weight (e ∷ es)
    by_test true rest = let a = weight-cons e (others keys es) in let b = weight-cons e es in omega (arith, a, b, rest)
    by_test false rest = let b = weight-cons e es in omega (arith, b, rest)

-- what is kept of the others
pub IsKept-others : (keys : List Key) (es fs : Entries) (total n : ℕ) → IsKept es total → fs ≡ others keys es → n ≡ weight fs → IsKept fs n
IsKept-others keys es fs total n is same counted =
    let up : Ascend fs = subst Ascend (sym same) (ascend-others keys es is.ascends) in
    let shown = entries-state_seen fs up in
    let before = entries-state_seen es is.ascends in
    record {
      ascends = up;
      counted = counted ∙ ap lamports_of (sym shown);
      is_state = record {
        held = subst (AllByRecursion (λ e. IsHeld e.1)) (sym (shown ∙ ap seen same)) (all-others keys es (subst (AllByRecursion (λ e. IsHeld e.1)) before is.is_state.held));
        fits =
            let less = weight-others keys es in
            let now = ap lamports_of (shown ∙ ap seen same) in
            let then = ap lamports_of before in
            let most = is.is_state.fits in
            omega (arith, less, now, then, most);
      };
    }

-- one absent account more
pub filled_more : (taken more : List (Option Shared)) (len : ℕ) → length taken < len → more ≡ taken ++ None ∷ []
    → more ++ replicate (len - length more) None ≡ taken ++ replicate (len - length taken) None
filled_more taken more len below pushed =
    let rest : len - length taken ≡ suc (len - (length taken + 1)) = omega arith in
    ap (λ os. os ++ replicate (len - length os) None) pushed
    ∙ append_assoc taken (None ∷ []) (replicate (len - length (taken ++ None ∷ [])) None)
    ∙ ap (λ n. taken ++ None ∷ replicate (len - n) None) (one_more taken None)
    ∙ ap (λ n. taken ++ replicate n None) (sym rest)

-- the lamports of one entry more
pub weight_more : (es : Entries) (i : ℕ) (e : Key × Shared) → i < length es → e ≡ get_or es i e
    → (weight (take (i + 1) es) ≡ weight (take i es) + (let a : Account = arc_value e.1 in a.lamports))
    × (weight (take i es) + (let a : Account = arc_value e.1 in a.lamports) ≤ weight es)
weight_more es i e below is =
    let more : weight (take (i + 1) es)
    ≡ weight (take i es) + (let a : Account = arc_value e.1 in a.lamports) = ap weight
    (take_more es i e below ∙ ap (λ (d : Key × Shared). take i es ++ d ∷ []) (sym is))
    ∙ weight-push (take i es) e in
    let parts : weight (take (i + 1) es) + weight (drop (i + 1) es) ≡ weight es =
    sym (sum_by-append (λ (d : Key × Account). d.1.lamports) (seen (take (i + 1) es)) (seen (drop (i + 1) es)))
    ∙ ap lamports_of (sym (map-append (λ (d : Key × Shared). (d.0, arc_value d.1)) (take (i + 1) es) (drop (i + 1) es)) ∙ ap seen (take-append-drop (i + 1) es)) in
    (more, omega (arith, more, parts))

-- the map of entries whose keys ascend has these entries
pub made_is : (xs : Entries) (made : BTreeMap Key Shared) → Ascend xs → IsFromIterResult key_cmp xs made → made.entries ≡ xs
made_is xs made up is =
    same_entries key_cmp key_cmp_total key_cmp_exact made.entries xs (is_sorted-from_sorted key_cmp made.entries is.1) (is_sorted-from_sorted key_cmp xs up)
    (λ q. find-lookup key_cmp q made.entries ∙ is.0 q
    ∙ update_all_none (eq_by_cmp_equiv key_cmp_total) (eq_by_cmp key_cmp) (λ x y. refl) xs q (IsDistinct-from_sorted key_cmp (keys_of xs) up)
    ∙ sym (find-lookup key_cmp q xs))

-- the end of a walk over what a store keeps
pub record IsWalked (keys : List Key) (es fs : Entries) (taken : List (Option Shared)) (total : ℕ) : Type 0 where
  pub found : map (option_map arc_value) taken ≡ map (get (state_seen es)) keys
  pub rest : state_seen fs ≡ without (state_seen es) keys
  pub kept : IsKept fs total

pub walked_all : (keys : List Key) (all es left : Entries) (before taken : List (Option Shared))
    (rest : Entries) (made : BTreeMap Key Shared) (start total : ℕ) → all ≡ es → left ≡ [] → IsKept es start
    → WalkedSoFar keys all left before rest total
    → taken ≡ before ++ replicate (length keys - length before) None → IsFromIterResult key_cmp rest made → IsWalked keys es made.entries taken total
walked_all keys all es left before taken rest made start total whole none kept W filled is = record {
  found = ap (map (option_map arc_value)) (filled ∙ walk_all keys es before rest total end) ∙ found_in-seen es keys;
  rest = ap state_seen same ∙ without-seen es keys;
  kept = IsKept-others keys es made.entries start total kept same (walk_total keys es before rest total end ∙ ap weight (sym made_same));
}
  where
    end : WalkedSoFar keys es [] before rest total
    end = subst (λ a. WalkedSoFar keys a [] before rest total) whole (subst (λ l. WalkedSoFar keys all l before rest total) none W)

    rest_is : rest ≡ others keys es
    rest_is = walk_rest keys es before rest total end

    made_same : made.entries ≡ rest
    made_same = made_is rest made (subst Ascend (sym rest_is) (ascend-others keys es kept.ascends)) is

    same : made.entries ≡ others keys es
    same = made_same ∙ rest_is

-- the walk at an entry, and at the end
pub walk_at : (keys : List Key) (all : Entries) (o : Option (Key × Shared)) (e : Key × Shared) (es : Entries)
    (taken : List (Option Shared)) (rest : Entries) (total : ℕ) → o ≡ Some e
    → WalkedSoFar keys all (option_to_list o ++ es) taken rest total
    → WalkedSoFar keys all (e ∷ es) taken rest total
walk_at keys all o e es taken rest total is W = subst (λ x. WalkedSoFar keys all (option_to_list x ++ es) taken rest total) is W

pub none_left : (o : Option (Key × Shared)) (es : Entries) → o ≡ None → (o ≡ None → es ≡ []) → option_to_list o ++ es ≡ []
none_left o es none ended = ap₂ (λ x l. option_to_list x ++ l) none (ended none)

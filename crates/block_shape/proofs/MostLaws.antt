-- The keys of a map where some wait.
use Rattle.std.proofs.Common.{◌≡◌, ℕ, zero, suc, ◌<◌, ◌≤◌, Bool, true, false, cond, List, [], ◌∷◌, ◌++◌, append_assoc, length, get_or, All, Contains, Option, None, Some, BTreeMap, refl, sym, ap, ◌∙◌, arith, subst, unwrap_or}
use Rattle.std.specs.Prelude.{MatchOption, map, filter, slice_get}
use Rattle.std.specs.Borrow.{Bor}
use Rattle.std.specs.List.{IsDistinct}
use Rattle.std.specs.List.Sorted.{IsPermutation}
use Rattle.std.specs.Cmp.{eq_by_cmp_equiv}
use Rattle.std.specs.Ordering.{eq_by_cmp}
use Rattle.std.specs.Map.{keys_of}
use Rattle.std.specs.BTreeMap.{get, is_at, IsOrdered}
use Rattle.std.proofs.lemmas.Bool.{ltb-true, lt-ltb}
use Rattle.std.proofs.lemmas.List.{append-nil}
use Rattle.std.proofs.lemmas.List.Elements.{All-map, All-filter, filter_passes}
use Rattle.std.proofs.lemmas.Option.{slice_get-get_or, slice_get_within, get_or_from_slice_get}
use Rattle.std.proofs.lemmas.List.Sorted.{IsPermutation-map, All-permutation, Contains-permutation}
use Rattle.std.proofs.lemmas.Map.Entries.{place_from_lookup, lookup_from_place}
use Rattle.std.proofs.lemmas.Map.Keys.{IsDistinct-from_sorted, IsDistinct-IsPermutation}
use Rattle.std.proofs.lemmas.Map.Made.{IsDistinct-keys_filter}
use Rattle.sol_base.specs.declared.key.Key.{Key}
use Rattle.sol_base.specs.Keys.{key_cmp, same_key}
use Rattle.sol_base.proofs.KeyLaws.{key_cmp_total, same_cmp, same_key-sym, same_key-true}
use Rattle.admission.specs.declared.chosen.Chosen.{Chosen}
use Rattle.block_shape.specs.declared.waits.Wait.{Wait}
use Rattle.block_shape.specs.declared.most.Waited.{Waited}
use Rattle.block_shape.specs.Waits.{wait_of, waits_at}
use Rattle.block_shape.specs.Most.{AreWaited, keys_waited, waited_of, is_waited, waited_in}

abbrev Entry : Type 0
Entry = Key × Wait

-- the keys of what is listed
keys_listed : (es : List Entry) → keys_waited (map waited_of es) ≡ keys_of es
keys_listed [] = refl
keys_listed (e ∷ es) = ap (λ (l : List Key). e.0 ∷ l) (keys_listed es)

there : (x : Key) (xs : List Key) (q : Key) → Contains xs q → Contains (x ∷ xs) q
there x xs q c = (suc c.0, omega (arith, c.1), c.2)

here : (x : Key) (xs : List Key) → Contains (x ∷ xs) x
here x xs = (0, omega arith, refl)

passing : (b : Bool) (x : Entry) (rest : List Entry) (q : Key) → Contains (keys_of rest) q → Contains (keys_of (cond b (x ∷ rest) rest)) q
passing true x rest q c = there x.0 (keys_of rest) q c
passing false x rest q c = c

-- an entry that passes is among those that do
among : (es : List Entry) (k : ℕ) (e : Entry) → k < length es → get_or es k e ≡ e → is_waited e ≡ true → Contains (keys_of (filter is_waited es)) e.0
among [] k e l at so = absurd (omega (arith, l))
among (x ∷ es) zero e l at so = subst
    (λ (y : Entry). Contains (keys_of (cond (is_waited y) (y ∷ filter is_waited es) (filter is_waited es))) e.0)
    (sym at) (rw so (here e.0 (keys_of (filter is_waited es))))
among (x ∷ es) (suc k) e l at so = passing (is_waited x) x (filter is_waited es) e.0 (among es k e (omega (arith, l)) at so)

-- what is under the key of each entry is its value
values_at : (m : BTreeMap Key Wait) → IsOrdered key_cmp m → All (λ (e : Entry). wait_of m e.0 ≡ e.1) m.entries
values_at m up k d l =
    let e : Entry = get_or m.entries k d in
    ap (λ (o : Option Wait). unwrap_or o (record { count = 0; place = 0 }))
    (lookup_from_place {eq = eq_by_cmp key_cmp} (eq_by_cmp_equiv key_cmp_total) m.entries k e.0 e.1 (IsDistinct-from_sorted key_cmp (keys_of m.entries) up) (slice_get-get_or m.entries k d l))

same_keys : eq_by_cmp key_cmp ≡ same_key
same_keys = λ i a b. same_cmp a b i

-- where some wait, an entry says so
entry_at : (m : BTreeMap Key Wait) (key : Key) → 1 ≤ (wait_of m key).count → (i : ℕ) × (e : Entry) × (slice_get m.entries i ≡ Some e) × (is_waited e ≡ true) × (e.0 ≡ key)
entry_at m key some = by_found (get key_cmp m key) refl
  where
    by_found : (o : Option Wait) → get key_cmp m key ≡ o → (i : ℕ) × (e : Entry) × (slice_get m.entries i ≡ Some e) × (is_waited e ≡ true) × (e.0 ≡ key)
    by_found None none = absurd (let z : (wait_of m key).count ≡ 0 = rw none refl in omega (arith, z, some))
    by_found (Some v) found =
        let t = place_from_lookup (is_at (key_cmp key)) m.entries v found in
        let is : (wait_of m key).count ≡ v.count = rw found refl in
        (t.0, (t.1, v), t.2, lt-ltb 0 v.count (omega (arith, is, some)), sym (same_key-true key t.1 (sym (same_cmp key t.1) ∙ t.3)))

module _ (order : List Chosen) (m : BTreeMap Key Wait) (up : IsOrdered key_cmp m) (counts : (key : Key) → (wait_of m key).count ≡ waits_at order key) where
  pub AreWaited-in : AreWaited order (waited_in m.entries)
  AreWaited-in = record {
    counts = All-map (λ (one : Waited). one.count ≡ waits_at order one.key) waited_of (filter is_waited m.entries)
        (All-filter is_waited (λ (e : Entry). e.1.count ≡ waits_at order e.0) m.entries
        (λ k d l. ap (λ (w : Wait). w.count) (sym (values_at m up k d l)) ∙ counts (get_or m.entries k d).0));
    some = All-map (λ (one : Waited). 1 ≤ one.count) waited_of (filter is_waited m.entries)
        (λ k d l. let p = ltb-true 0 (get_or (filter is_waited m.entries) k d).1.count (filter_passes is_waited m.entries k d l) in omega (arith, p));
    every = λ key some.
        let t = entry_at m key (subst (λ n. 1 ≤ n) (sym (counts key)) some) in
        subst (λ (keys : List Key). Contains keys key) (sym (keys_listed (filter is_waited m.entries)))
        (subst (Contains (keys_of (filter is_waited m.entries))) t.4
        (among m.entries t.0 t.1 (slice_get_within m.entries t.0 t.1 t.2) (get_or_from_slice_get m.entries t.0 t.1 t.1 t.2) t.3));
    apart = subst (λ (keys : List Key). IsDistinct same_key keys) (sym (keys_listed (filter is_waited m.entries)))
        (subst (λ (eq : Key → Key → Bool). IsDistinct eq (keys_of (filter is_waited m.entries))) same_keys
        (IsDistinct-keys_filter (eq_by_cmp key_cmp) is_waited m.entries (IsDistinct-from_sorted key_cmp (keys_of m.entries) up)));
  }

-- in another order they are the same
pub AreWaited-moved : (order : List Chosen) (xs ys : List Waited) → IsPermutation xs ys → AreWaited order xs → AreWaited order ys
AreWaited-moved order xs ys moved A =
    let keys = IsPermutation-map (λ (one : Waited). one.key) xs ys moved in
    record {
      counts = All-permutation (λ (one : Waited). one.count ≡ waits_at order one.key) xs ys moved A.counts;
      some = All-permutation (λ (one : Waited). 1 ≤ one.count) xs ys moved A.some;
      every = λ key some. Contains-permutation (keys_waited xs) (keys_waited ys) key keys (A.every key some);
      apart = IsDistinct-IsPermutation same_key same_key-sym (keys_waited xs) (keys_waited ys) keys A.apart;
    }

-- ---- one entry after the other

waited_in-none : (e : Entry) (after : List Entry) → is_waited e ≡ false → waited_in (e ∷ after) ≡ waited_in after
waited_in-none e after so = rw so refl

pub none_listed : (e : Entry) (before after : List Entry) (items all : List Waited) → before ≡ e ∷ after → is_waited e ≡ false → items ++ waited_in before ≡ all → items ++ waited_in after ≡ all
none_listed e before after items all is so h =
    ap (λ (l : List Waited). items ++ l) (sym (waited_in-none e after so)) ∙ (ap (λ (l : List Entry). items ++ waited_in l) (sym is) ∙ h)

pub all_listed : (before : List Entry) (items all : List Waited) → before ≡ [] → items ++ waited_in before ≡ all → items ≡ all
all_listed before items all none h = sym (append-nil items) ∙ (ap (λ (l : List Entry). items ++ waited_in l) (sym none) ∙ h)

-- where no entry is next, none is left
pub none_left : (r : Option (Bor Key × Bor Wait)) (left after : List Entry)
    → ((x : Bor Key × Bor Wait) → r ≡ Some x → ⊥)
    → MatchOption r ((left ≡ []) × (after ≡ [])) (λ x. left ≡ (x.0.now, x.1.now) ∷ after) → left ≡ []
none_left None left after some h = h.0
none_left (Some x) left after some h = absurd (some x refl)

-- Keys that were sorted, each once, and searches among keys that ascend.
use Rattle.std.proofs.Common.{◌≡◌, ℕ, ◌+◌, ◌<◌, false, inl, inr, List, [], ◌∷◌, map, length, get_or, refl, sym, ap, ap₂, subst, ◌∙◌, arith}
use Rattle.std.specs.Bool.{Decides}
use Rattle.std.specs.List.{Contains, HoldsAt, dedup}
use Rattle.std.specs.List.Sorted.{IsStrictlySortedBy, IsSorted, IsPermutation, IsNonDecreasingBy, IsPartitionPoint}
use Rattle.std.specs.Ordering.{is_eq, is_lt, ordering_index, ordering_reverse}
use Rattle.std.specs.Cmp.{eq_by_cmp_equiv}
use Rattle.std.specs.declared.cmp.Ordering.{Ordering}
use Rattle.std.specs.declared.cmp.Ordering.TheVariants.{Less, Equal, Greater}
use Rattle.std.proofs.lemmas.Bool.{cases_lt}
use Rattle.std.proofs.lemmas.Bool.Decides.{same_from_decides}
use Rattle.std.proofs.lemmas.List.{get_or-map, length-map}
use Rattle.std.proofs.lemmas.List.Folds.{list_any_none}
use Rattle.std.proofs.lemmas.List.Kept.{IsStrictlySortedBy-dedup, Contains-dedup, Contains-from_dedup}
use Rattle.std.proofs.lemmas.List.Sorted.{list_any-IsPermutation, searchable_from_sorted}
use Rattle.std.proofs.lemmas.Map.Keys.{Less-from_sorted}
use Rattle.std.proofs.lemmas.Map.Made.{is_member-Decides}
use Rattle.sol_base.specs.declared.key.Key.{Key}
use Rattle.sol_base.specs.Keys.{key_cmp, same_key, has_key}
use Rattle.sol_base.proofs.KeyLaws.{key_cmp_exact, key_cmp_total, same_cmp, same_key-equiv, same_key-true, same_key-Decides}

pub ascend-dedup : (keys : List Key) → IsSorted key_cmp keys → IsStrictlySortedBy key_cmp (dedup same_key keys)
ascend-dedup keys sorted = IsStrictlySortedBy-dedup key_cmp_total (λ x y. sym (same_cmp x y)) keys sorted

has_key-dedup : (keys : List Key) (key : Key) → has_key key (dedup same_key keys) ≡ has_key key keys
has_key-dedup keys key =
    let kept = is_member-Decides same_key-Decides (dedup same_key keys) key in
    let all = is_member-Decides same_key-Decides keys key in
    let among : Decides (has_key key keys) (Contains (dedup same_key keys) key) = (
      λ t. Contains-dedup same_key-equiv same_key-true keys key (all.0 t),
      λ m. all.1
          (Contains-from_dedup same_key keys key m),
    ) in
    same_from_decides (has_key key (dedup same_key keys)) (has_key key keys) kept among

-- a sorted list without repeats has the keys of the list
pub has_key-sorted : (keys sorted : List Key) (key : Key) → IsPermutation keys sorted → has_key key (dedup same_key sorted) ≡ has_key key keys
has_key-sorted keys sorted key moved = has_key-dedup sorted key ∙ sym (list_any-IsPermutation (λ k. same_key key k) keys sorted moved)

-- a binary search among elements whose keys ascend
module _ {X : Type 0} (key : X → Key) (xs : List X) (q : Key) where
  pub search_found : (at : ℕ) (d : X) → HoldsAt (λ x. key_cmp (key x) q ≡ Equal) xs at → key (get_or xs at d) ≡ q
  search_found at d h = key_cmp_exact (key (get_or xs at d)) q (h d)

  rises : IsStrictlySortedBy key_cmp (map key xs) → IsNonDecreasingBy (λ x. ordering_index (key_cmp (key x) q)) xs
  rises sorted = searchable_from_sorted key_cmp_total key xs q (λ k d from below.
      let long = length-map xs key in
      let less = Less-from_sorted key_cmp (map key xs) k (k + 1) (key d) sorted (omega arith) (omega (arith, below, long)) in
      ap is_lt (key_cmp_total.antisymm (key (get_or xs (k + 1) d)) (key (get_or xs k d))
      ∙ ap ordering_reverse (ap₂ key_cmp (sym (get_or-map key xs k d (key d) (omega (arith, below))))
      (sym (get_or-map key xs (k + 1) d (key d) below)) ∙ less)))

  pub search_none : (at : ℕ) → IsStrictlySortedBy key_cmp (map key xs)
      → (IsNonDecreasingBy (λ x. ordering_index (key_cmp (key x) q)) xs
      → IsPartitionPoint (λ x. key_cmp (key x) q ≡ Less) (λ x. key_cmp (key x) q ≡ Greater) xs at)
      → has_key q (map key xs) ≡ false
  search_none at sorted h = list_any_none (λ k. same_key q k) (map key xs) (λ j e l. differs j e (subst (λ n. j < n) (length-map xs key) l) (some xs (subst (λ n. j < n) (length-map xs key) l)))
    where
      some : (ys : List X) {j : ℕ} → j < length ys → X
      some [] l = absurd (omega (arith, l))
      some (y ∷ ys) l = y

      apart : (o : Ordering) (k : Key) → key_cmp k q ≡ o → is_eq o ≡ false → same_key q k ≡ false
      apart o k e differ = sym (same_cmp q k) ∙ (eq_by_cmp_equiv key_cmp_total).symm q k ∙ ap is_eq e ∙ differ

      differs : (j : ℕ) (e : Key) → j < length xs → X → same_key q (get_or (map key xs) j e) ≡ false
      differs j e l d = ap (same_key q) (get_or-map key xs j d e l) ∙ elim (cases_lt j at) [
        | inl u ↦ apart Less (key (get_or xs j d)) ((h (rises sorted)).0 j d (omega arith) u) refl
        | inr m ↦ apart Greater (key (get_or xs j d)) ((h (rises sorted)).1 j d m l) refl
      ]

map_same : (ks : List Key) → map (λ k. k) ks ≡ ks
map_same [] = refl
map_same (k ∷ ks) = ap (λ (l : List Key). k ∷ l) (map_same ks)

-- a search that found nothing
pub not_found : (shown keys : List Key) (q : Key) (at : ℕ) → shown ≡ keys → IsStrictlySortedBy key_cmp keys
    → (IsNonDecreasingBy (λ k. ordering_index (key_cmp k q)) shown
    → IsPartitionPoint (λ k. key_cmp k q ≡ Less) (λ k. key_cmp k q ≡ Greater) shown at) → has_key q keys ≡ false
not_found shown keys q at same up h =
    ap (has_key q) (sym (map_same keys)) ∙ search_none (λ k. k) keys q at (subst (IsStrictlySortedBy key_cmp) (sym (map_same keys)) up)
    (subst (λ ks. IsNonDecreasingBy (λ k. ordering_index (key_cmp k q)) ks → IsPartitionPoint (λ k. key_cmp k q ≡ Less) (λ k. key_cmp k q ≡ Greater) ks at) same h)

-- Names that are sorted.
use Rattle.std.proofs.Common.{◌≡◌, ◌∷◌, [], Bool, true, false, ◌||◌, List, refl, sym, ap, ap₂, subst, ◌∙◌}
use Rattle.std.specs.Bool.{Decides}
use Rattle.std.specs.Cmp.{IsEquivalence}
use Rattle.std.specs.Ordering.{eq_by_cmp, is_eq, ordering_reverse}
use Rattle.std.specs.List.{AllByRecursion, Contains, dedup, list_any}
use Rattle.std.specs.List.Sorted.{IsStrictlySortedBy, IsSorted, IsPermutation}
use Rattle.std.specs.declared.cmp.Ordering.{Ordering}
use Rattle.std.specs.declared.cmp.Ordering.TheVariants.{Less, Equal, Greater}
use Rattle.std.proofs.lemmas.Bool.{both_ways, false_from_ne_true}
use Rattle.std.proofs.lemmas.Bool.Decides.{same_from_decides}
use Rattle.std.proofs.lemmas.Cmp.{eq_by_cmp_equiv, nat_list_eq_equiv, on_equiv}
use Rattle.std.proofs.lemmas.List.Kept.{IsStrictlySortedBy-dedup, Contains-dedup, Contains-from_dedup}
use Rattle.std.proofs.lemmas.List.Sorted.{list_any-IsPermutation}
use Rattle.std.proofs.lemmas.Map.Made.{is_member-Decides}
use Rattle.sol_base.specs.declared.key.Hash32.{Hash32}
use Rattle.sol_base.specs.Keys.{hash_cmp, same_hash}
use Rattle.sol_base.proofs.KeyLaws.{hash_cmp_exact, hash_cmp_total, same_hash-Decides}
use Rattle.status_cache.specs.Recent.{has_hash}
use Rattle.block_end.specs.Blocks.{ascending}
use Rattle.block_end.proofs.Sorting.{all_above, ascending-sorted, ascending_has}

abbrev AreAbove : Hash32 → List Hash32 → Type 0
AreAbove k names = AllByRecursion (λ (q : Hash32). hash_cmp k q ≡ Less) names

-- a name is none of those above it
less_differs : (k q : Hash32) → hash_cmp k q ≡ Less → same_hash q k ≡ false
less_differs k q below = by_test (same_hash q k) refl
  where
    by_test : (t : Bool) → same_hash q k ≡ t → t ≡ false
    by_test false e = refl
    by_test true e = absurd (irreflexive k (subst (λ (h : Hash32). hash_cmp k h ≡ Less) ((same_hash-Decides q k).0 e) below))
      where
        irreflexive : (k : Hash32) → hash_cmp k k ≡ Less → ⊥
        irreflexive k e = not_less (hash_cmp k k) e (hash_cmp_total.antisymm k k)
          where
            not_less : (o : Ordering) → o ≡ Less → o ≡ ordering_reverse o → ⊥
            not_less Less e r = absurd (cc)
            not_less Equal e r = absurd (cc)
            not_less Greater e r = absurd (cc)

not_among : (k : Hash32) (names : List Hash32) → AreAbove k names → has_hash names k ≡ false
not_among k [] above = refl
not_among k (n ∷ ns) above = ap (λ b. b || has_hash ns k) (less_differs k n above.0) ∙ not_among k ns above.1

first_is : (k : Hash32) (names : List Hash32) → has_hash (k ∷ names) k ≡ true
first_is k names = ap (λ b. b || has_hash names k) ((same_hash-Decides k k).1 refl)

-- names that ascend are told by which they are
pub same_names : (xs ys : List Hash32) → IsStrictlySortedBy hash_cmp xs → IsStrictlySortedBy hash_cmp ys → ((q : Hash32) → has_hash xs q ≡ has_hash ys q) → xs ≡ ys
unfolding IsStrictlySortedBy
same_names [] [] sx sy same = refl
same_names [] (y ∷ ys) sx sy same = absurd (both_ways (has_hash (y ∷ ys) y) (sym (same y)) (first_is y ys))
same_names (x ∷ xs) [] sx sy same = absurd (both_ways (has_hash (x ∷ xs) x) (same x) (first_is x xs))
same_names (x ∷ xs) (y ∷ ys) sx sy same = by_order (hash_cmp x y) refl (same_names xs ys sx.1 sy.1)
  where
    tails : x ≡ y → (q : Hash32) → has_hash xs q ≡ has_hash ys q
    tails e q = by_test (same_hash x q) refl
      where
        by_test : (t : Bool) → same_hash x q ≡ t → has_hash xs q ≡ has_hash ys q
        by_test true is =
            let here = (same_hash-Decides x q).0 is in
            subst (λ (h : Hash32). has_hash xs h ≡ has_hash ys h) here (not_among x xs sx.0 ∙ sym (not_among x ys (subst (λ (h : Hash32). AreAbove h ys) (sym e) sy.0)))
        by_test false is =
            sym (ap (λ b. b || has_hash xs q) is) ∙ same q ∙ ap (λ b. b || has_hash ys q) (ap (λ (h : Hash32). same_hash h q) (sym e) ∙ is)

    by_order : (o : Ordering) → hash_cmp x y ≡ o → (((q : Hash32) → has_hash xs q ≡ has_hash ys q) → xs ≡ ys) → x ∷ xs ≡ y ∷ ys
    by_order Less is next = absurd (both_ways (has_hash (x ∷ xs) x) (same x ∙ not_among x (y ∷ ys) (is, all_above x y ys is sy.0)) (first_is x xs))
    by_order Greater is next =
        let less = hash_cmp_total.antisymm y x ∙ ap ordering_reverse is in
        absurd (both_ways (has_hash (y ∷ ys) y) (sym (same y) ∙ not_among y (x ∷ xs) (less, all_above y x xs less sx.0)) (first_is y ys))
    by_order Equal is next =
        let e = hash_cmp_exact x y is in
        ap (λ (h : Hash32). h ∷ xs) e ∙ ap (λ (hs : List Hash32). y ∷ hs) (next (tails e))

-- ---- names that are sorted
by_cmp : (a b : Hash32) → same_hash a b ≡ eq_by_cmp hash_cmp a b
by_cmp a b = by_test (same_hash a b) refl
  where
    equal : (o : Ordering) → is_eq o ≡ true → o ≡ Equal
    equal Less e = absurd (cc)
    equal Equal e = refl
    equal Greater e = absurd (cc)

    by_test : (t : Bool) → same_hash a b ≡ t → t ≡ eq_by_cmp hash_cmp a b
    by_test true same = sym (subst (λ (h : Hash32). eq_by_cmp hash_cmp a h ≡ true) ((same_hash-Decides a b).0 same) ((eq_by_cmp_equiv hash_cmp_total).refl a))
    by_test false differ = sym (false_from_ne_true (eq_by_cmp hash_cmp a b) (λ e. both_ways (same_hash a b) differ ((same_hash-Decides a b).1 (hash_cmp_exact a b (equal (hash_cmp a b) e)))))

same_hash-equiv : IsEquivalence same_hash
same_hash-equiv = on_equiv (λ (h : Hash32). h.0) nat_list_eq_equiv

same_hash-true : (a b : Hash32) → same_hash a b ≡ true → a ≡ b
same_hash-true a b = (same_hash-Decides a b).0

flip : (q : Hash32) (names : List Hash32) → has_hash names q ≡ list_any (λ one. same_hash q one) names
flip q [] = refl
flip q (n ∷ ns) = ap₂ (λ a b. a || b) (same_hash-equiv.symm n q) (flip q ns)

has_dedup : (names : List Hash32) (q : Hash32) → list_any (λ one. same_hash q one) (dedup same_hash names) ≡ list_any (λ one. same_hash q one) names
has_dedup names q =
    let kept = is_member-Decides same_hash-Decides (dedup same_hash names) q in
    let all = is_member-Decides same_hash-Decides names q in
    let among : Decides (list_any (λ one. same_hash q one) names) (Contains (dedup same_hash names) q) = (
      λ t. Contains-dedup same_hash-equiv same_hash-true names q (all.0 t),
      λ m. all.1
          (Contains-from_dedup same_hash names q m),
    ) in
    same_from_decides (list_any (λ one. same_hash q one) (dedup same_hash names)) (list_any (λ one. same_hash q one) names) kept among

pub sorted_is : (names sorted : List Hash32) → IsPermutation names sorted → IsSorted hash_cmp sorted → dedup same_hash sorted ≡ ascending names
sorted_is names sorted moved ascend =
    same_names (dedup same_hash sorted) (ascending names) (IsStrictlySortedBy-dedup hash_cmp_total by_cmp sorted ascend) (ascending-sorted names)
    (λ q. flip q (dedup same_hash sorted) ∙ has_dedup sorted q ∙ sym (list_any-IsPermutation (λ one. same_hash q one) names sorted moved) ∙ sym (flip q names) ∙ sym (ascending_has names q))

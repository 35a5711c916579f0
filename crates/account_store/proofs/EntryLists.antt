-- Lists of entries whose keys ascend, as ordered maps have them and as finite maps have them.
use Rattle.std.proofs.Common.{◌≡◌, ℕ, ◌+◌, List, [], ◌∷◌, Some, None, Bool, true, false, cond, ◌&&◌, T, refl, sym, ap, subst, ◌∙◌}
use Rattle.std.specs.Prelude.{sum_by}
use Rattle.std.specs.List.{AllByRecursion}
use Rattle.std.specs.List.Sorted.{IsStrictlySortedBy}
use Rattle.std.specs.Cmp.{IsTotalOrder, eq_by_cmp_equiv, Equal-is}
use Rattle.std.specs.Map.{lookup, keys_of, values_of, remove_entry}
use Rattle.std.specs.BTreeMap.{is_at, insert_entry}
use Rattle.std.specs.Ordering.{eq_by_cmp, is_lt, is_eq, match_ordering}
use Rattle.std.specs.declared.cmp.Ordering.{Ordering}
use Rattle.std.specs.declared.cmp.Ordering.TheVariants.{Less, Equal, Greater}
use Rattle.std.specs.FinMap.{FinMap, find, put, is_sorted, entries, entries_sorted, get, insert, remove, from_entries, from_sorted, entries-from_sorted, entries-insert, get-from_sorted, get-entries, get-remove, get-from_entries, same_map, same_entries_map, IsAntisymmetric}
use Rattle.std.specs.FinMap.Entries.{below_all, by_order}
use Rattle.std.proofs.lemmas.List.Sums.{sum_by-cons}
use Rattle.std.proofs.lemmas.Map.{lookup-remove_entry}
use Rattle.std.proofs.lemmas.Option.{same_Some}
use Rattle.std.proofs.lemmas.Map.Keys.{IsDistinct-from_sorted}

both : (a b : Bool) → T a → T b → T (a && b)
both true b p q = q
both false b p q = p

first : (a b : Bool) → T (a && b) → T a
first true b p = tt
first false b p = p

second : (a b : Bool) → T (a && b) → T b
second true b p = p
second false b p = absurd p

is_less : (o : Ordering) → o ≡ Less → T (is_lt o)
is_less o e = subst (λ r. T (is_lt r)) (sym e) tt

less : (o : Ordering) → T (is_lt o) → o ≡ Less
less Less p = refl
less Equal p = absurd p
less Greater p = absurd p

module _ {K X : Type 0} (R : K → K → Ordering) where
  -- `find` and `lookup` are one search
  pub find-lookup : (q : K) (es : List (K × X)) → find R q es ≡ lookup (is_at (R q)) es
  find-lookup q [] = refl
  find-lookup q (e ∷ es) = ap (cond (is_at (R q) e.0) (Some e.1)) (find-lookup q es)

  same_step : (o : Ordering) (a b c : List (K × X)) → by_order o a b c ≡ match_ordering o a b c
  same_step Less a b c = refl
  same_step Equal a b c = refl
  same_step Greater a b c = refl

  -- `put` and `insert_entry` are one insertion
  pub put-insert_entry : (k : K) (v : X) (es : List (K × X)) → put R k v es ≡ insert_entry R es k v
  put-insert_entry k v [] = refl
  put-insert_entry k v (e ∷ es) = ap
      (λ (l : List (K × X)). by_order (R k e.0) ((k, v) ∷ e ∷ es) ((e.0, v) ∷ es) (e ∷ l))
      (put-insert_entry k v es)
      ∙ same_step (R k e.0) ((k, v) ∷ e ∷ es) ((e.0, v) ∷ es) (e ∷ insert_entry R es k v)

  below : (k : K) (es : List (K × X)) → AllByRecursion (λ (y : K). R k y ≡ Less) (keys_of es) → T (below_all R k es)
  below k [] h = tt
  below k (e ∷ es) h = both (is_lt (R k e.0)) (below_all R k es) (is_less _ h.0) (below k es h.1)

  all_less : (k : K) (es : List (K × X)) → T (below_all R k es) → AllByRecursion (λ (y : K). R k y ≡ Less) (keys_of es)
  all_less k [] h = tt
  all_less k (e ∷ es) h = (less _ (first (is_lt (R k e.0)) (below_all R k es) h), all_less k es (second (is_lt (R k e.0)) (below_all R k es) h))

  -- keys that ascend, as a test
  pub is_sorted-from_sorted : (es : List (K × X)) → IsStrictlySortedBy R (keys_of es) → T (is_sorted R es)
  unfolding IsStrictlySortedBy
  is_sorted-from_sorted [] h = tt
  is_sorted-from_sorted (e ∷ es) h = both (below_all R e.0 es) (is_sorted R es) (below e.0 es h.0) (is_sorted-from_sorted es h.1)

  pub sorted-from_is_sorted : (es : List (K × X)) → T (is_sorted R es) → IsStrictlySortedBy R (keys_of es)
  unfolding IsStrictlySortedBy
  sorted-from_is_sorted [] h = tt
  sorted-from_is_sorted (e ∷ es) h = (all_less e.0 es (first (below_all R e.0 es) (is_sorted R es) h), sorted-from_is_sorted es (second (below_all R e.0 es) (is_sorted R es) h))

  -- the keys of a finite map ascend
  pub sorted-entries : (m : FinMap R X) → IsStrictlySortedBy R (keys_of (entries m))
  sorted-entries m = sorted-from_is_sorted (entries m) (entries_sorted m)

tied_tests : {K : Type 0} {R : K → K → Ordering} → IsTotalOrder R → (k x y : K) → is_at (R k) x ≡ true → is_at (R k) y ≡ eq_by_cmp R x y
tied_tests o k x y t = ap is_eq (o.congr k x y ((Equal-is _).0 t))

-- a sum over entries that looks at their values is a sum over the values
pub sum_by-values : {K X : Type 0} (f : X → ℕ) (es : List (K × X)) → sum_by (λ e. f e.1) es ≡ sum_by f (values_of es)
sum_by-values f [] = refl
sum_by-values {K = K} {X = X} f (e ∷ es) = sum_by-cons (λ (d : K × X). f d.1) e es ∙ ap (λ n. f e.1 + n) (sum_by-values f es) ∙ sym (sum_by-cons f e.1 (values_of es))

-- what holds of each value holds after one is put in
pub all-insert_entry : {K X : Type 0} (R : K → K → Ordering) (P : X → Type 0) (es : List (K × X)) (k : K)
    (v : X) → AllByRecursion (λ e. P e.1) es → P v → AllByRecursion (λ e. P e.1) (insert_entry R es k v)
all-insert_entry R P [] k v all here = (here, tt)
all-insert_entry R P (e ∷ es) k v all here = elim (R k e.0) as (λ o. AllByRecursion (λ d. P d.1) (match_ordering o ((k, v) ∷ e ∷ es) ((e.0, v) ∷ es) (e ∷ insert_entry R es k v))) [
  | Less ↦ (here, all)
  | Equal ↦ (here, all.1)
  | Greater ↦ (all.0, all-insert_entry R P es k v all.1 here)
]

-- and after one is taken out
pub all-remove_entry : {K X : Type 0} (P : X → Type 0) (test : K → Bool) (es : List (K × X)) → AllByRecursion (λ e. P e.1) es → AllByRecursion (λ e. P e.1) (remove_entry test es)
all-remove_entry P test [] all = tt
all-remove_entry P test (e ∷ es) all = elim (test e.0) as (λ b. AllByRecursion (λ d. P d.1) (cond b es (e ∷ remove_entry test es))) [ true ↦ all.1 | false ↦ (all.0, all-remove_entry P test es all.1) ]

-- what holds of each value holds of the one that is found
pub all-find : {K X : Type 0} (R : K → K → Ordering) (P : X → Type 0) (q : K) (es : List (K × X)) (v : X) → AllByRecursion (λ e. P e.1) es → find R q es ≡ Some v → P v
all-find R P q [] v all found = absurd (cc)
all-find R P q (e ∷ es) v all found = elim (eq_by_cmp R q e.0) as (λ b. cond b (Some e.1) (find R q es) ≡ Some v → P v) [
  | true ↦ λ f. subst P (same_Some e.1 v f) all.0
  | false ↦ λ f. all-find R P q es v all.1 f
] found

module _ {K X : Type 0} {R : K → K → Ordering} (o : IsTotalOrder R) where
  -- the map of a list of entries whose keys ascend has these entries
  pub entries-from_entries : IsAntisymmetric R → (es : List (K × X)) → IsStrictlySortedBy R (keys_of es) → entries (from_entries {R = R} es) ≡ es
  entries-from_entries exact es h =
      let sorted = is_sorted-from_sorted R es h in
      let same : from_entries {R = R} es ≡ from_sorted es = same_map o exact _ _ (λ q. get-from_entries o es q ∙ sym (get-from_sorted R es q sorted)) in
      ap entries same ∙ entries-from_sorted R es sorted

  -- a map is that of its entries
  pub from_entries-entries : IsAntisymmetric R → (m : FinMap R X) → from_entries (entries m) ≡ m
  from_entries-entries exact m = same_entries_map _ _ (entries-from_entries exact (entries m) (sorted-entries R m))

  -- the entries of a map with one more, or with another account at a key
  pub entries-insert_entry : (m : FinMap R X) (k : K) (v : X) → entries (insert m k v) ≡ insert_entry R (entries m) k v
  entries-insert_entry m k v = entries-insert o m k v ∙ put-insert_entry R k v (entries m)

  still_all : (P : K → Type 0) (test : K → Bool) (es : List (K × X)) → AllByRecursion P (keys_of es) → AllByRecursion P (keys_of (remove_entry test es))
  still_all P test [] h = tt
  still_all P test (e ∷ es) h = elim (test e.0) as (λ b. AllByRecursion P (keys_of (cond b es (e ∷ remove_entry test es)))) [ true ↦ h.1 | false ↦ (h.0, still_all P test es h.1) ]

  pub sorted-remove_entry : (test : K → Bool) (es : List (K × X)) → IsStrictlySortedBy R (keys_of es) → IsStrictlySortedBy R (keys_of (remove_entry test es))
  unfolding IsStrictlySortedBy
  sorted-remove_entry test [] h = tt
  sorted-remove_entry test (e ∷ es) h = elim (test e.0) as
      (λ b. IsStrictlySortedBy R (keys_of (cond b es (e ∷ remove_entry test es)))) [
        | true ↦ h.1
        | false ↦ (
          still_all (λ (y : K). R e.0 y ≡ Less) test es h.0,
          sorted-remove_entry test es
              h.1,
        )
      ]

  -- the entries of a map without a key
  pub entries-remove_entry : IsAntisymmetric R → (m : FinMap R X) (k : K) → entries (remove m k) ≡ remove_entry (is_at (R k)) (entries m)
  entries-remove_entry exact m k =
      let es = entries m in
      let left = remove_entry (is_at (R k)) es in
      let sorted = sorted-entries R m in
      let same : remove m k ≡ from_entries left = same_map o exact _ _ (λ q.
      get-remove o m k q ∙ ap (λ (b : Bool). cond b None (get m q)) ((eq_by_cmp_equiv o).symm q k)
      ∙ ap (cond (is_at (R k) q) None) (get-entries m q ∙ find-lookup R q es)
      ∙ sym (get-from_entries o left q ∙ find-lookup R q left ∙ lookup-remove_entry (eq_by_cmp_equiv o) (is_at (R k)) (tied_tests o k) q es (IsDistinct-from_sorted R (keys_of es) sorted))) in
      ap entries same ∙ entries-from_entries exact left (sorted-remove_entry (is_at (R k)) es sorted)

-- Names in ascending order.
use Rattle.std.proofs.Common.{◌≡◌, ◌+◌, ◌<◌, ◌∷◌, [], ◌++◌, ℕ, zero, suc, Bool, true, false, ◌||◌, List, length, take, get_or, Option, Some, None, refl, sym, ap, ◌∙◌, add-one, arith}
use Rattle.std.specs.Prelude.{option_to_list}
use Rattle.std.specs.BTreeSet.{insert_key}
use Rattle.std.specs.Ordering.{match_ordering, ordering_reverse}
use Rattle.std.specs.List.{AllByRecursion, cons_option, filter_map, zip}
use Rattle.std.specs.List.Sorted.{IsStrictlySortedBy}
use Rattle.sol_base.proofs.KeyLaws.{hash_cmp_exact, hash_cmp_total}
use Rattle.status_cache.specs.Recent.{Ascends, has_hash}
use Rattle.snapshot_codec.proofs.Ordered.{pairs-from_sorted}
use Rattle.tx_report.specs.declared.outcome.Outcome.{Outcome}
use Rattle.admission.specs.declared.chosen.Chosen.{Chosen}
use Rattle.std.specs.declared.cmp.Ordering.{Ordering}
use Rattle.std.specs.declared.cmp.Ordering.TheVariants.{Less, Equal, Greater}
use Rattle.sol_base.specs.declared.key.Hash32.{Hash32}
use Rattle.sol_base.specs.Keys.{hash_cmp, same_hash}
use Rattle.block_end.specs.Blocks.{ascending, processed_by, processed_in}

-- names stay in order when one is put in its place
inserted-above : (k name : Hash32) (names : List Hash32) → hash_cmp k name ≡ Less
    → AllByRecursion (λ (q : Hash32). hash_cmp k q ≡ Less) names
    → AllByRecursion (λ (q : Hash32). hash_cmp k q ≡ Less) (insert_key hash_cmp names name)
inserted-above k name [] above all = (above, tt)
inserted-above k name (n ∷ ns) above all = by_case (hash_cmp name n) (inserted-above k name ns above all.1)
  where
    by_case : (r : Ordering) → AllByRecursion (λ (q : Hash32). hash_cmp k q ≡ Less)
        (insert_key hash_cmp ns name)
        → AllByRecursion (λ (q : Hash32). hash_cmp k q ≡ Less)
        (match_ordering r (name ∷ n ∷ ns) (n ∷ ns) (n ∷ insert_key hash_cmp ns name))
    by_case Less rest = (above, all)
    by_case Equal rest = all
    by_case Greater rest = (all.0, rest)

pub all_above : (name n : Hash32) (ns : List Hash32) → hash_cmp name n ≡ Less → AllByRecursion (λ (q : Hash32). hash_cmp n q ≡ Less) ns → AllByRecursion (λ (q : Hash32). hash_cmp name q ≡ Less) ns
all_above name n [] below all = tt
all_above name n (q ∷ qs) below all = (hash_cmp_total.trans name n q below all.0, all_above name n qs below all.1)

inserted-sorted : (name : Hash32) (names : List Hash32) → IsStrictlySortedBy hash_cmp names → IsStrictlySortedBy hash_cmp (insert_key hash_cmp names name)
unfolding IsStrictlySortedBy
inserted-sorted name [] sorted = (tt, tt)
inserted-sorted name (n ∷ ns) sorted = by_case (hash_cmp name n) refl (inserted-sorted name ns sorted.1)
  where
    by_case : (r : Ordering) → hash_cmp name n ≡ r → IsStrictlySortedBy hash_cmp (insert_key hash_cmp ns name)
        → IsStrictlySortedBy hash_cmp
        (match_ordering r (name ∷ n ∷ ns) (n ∷ ns) (n ∷ insert_key hash_cmp ns name))
    by_case Less is rest = ((is, all_above name n ns is sorted.0), sorted)
    by_case Equal is rest = sorted
    by_case Greater is rest = (inserted-above n name ns (hash_cmp_total.antisymm n name ∙ ap ordering_reverse is) sorted.0, rest)

pub ascending-sorted : (names : List Hash32) → IsStrictlySortedBy hash_cmp (ascending names)
unfolding IsStrictlySortedBy
ascending-sorted [] = tt
ascending-sorted (n ∷ ns) = inserted-sorted n (ascending ns) (ascending-sorted ns)

pub ascending_ascends : (names : List Hash32) → Ascends (ascending names)
ascending_ascends names = pairs-from_sorted hash_cmp (ascending names) (ascending-sorted names)

-- the name that is put in its place is there then, and all others as before
or_twice : (b c : Bool) → (b || c) ≡ (b || (b || c))
or_twice true c = refl
or_twice false c = refl

or_swap : (a b c : Bool) → (a || (b || c)) ≡ (b || (a || c))
or_swap true true c = refl
or_swap true false c = refl
or_swap false true c = refl
or_swap false false c = refl

has_inserted : (name q : Hash32) (names : List Hash32) → has_hash (insert_key hash_cmp names name) q ≡ (same_hash name q || has_hash names q)
has_inserted name q [] = refl
has_inserted name q (n ∷ ns) = by_case (hash_cmp name n) refl (has_inserted name q ns)
  where
    by_case : (r : Ordering) → hash_cmp name n ≡ r → has_hash (insert_key hash_cmp ns name) q ≡ (same_hash name q || has_hash ns q)
        → has_hash (match_ordering r (name ∷ n ∷ ns) (n ∷ ns) (n ∷ insert_key hash_cmp ns name)) q ≡ (same_hash name q || (same_hash n q || has_hash ns q))
    by_case Less is rest = refl
    by_case Equal is rest = or_twice (same_hash n q) (has_hash ns q) ∙ ap (λ (one : Hash32). same_hash one q || (same_hash n q || has_hash ns q)) (sym (hash_cmp_exact name n is))
    by_case Greater is rest = ap (λ b. same_hash n q || b) rest ∙ or_swap (same_hash n q) (same_hash name q) (has_hash ns q)

pub ascending_has : (names : List Hash32) (q : Hash32) → has_hash (ascending names) q ≡ has_hash names q
ascending_has [] q = refl
ascending_has (n ∷ ns) q = has_inserted n q (ascending ns) ∙ ap (λ b. same_hash n q || b) (ascending_has ns q)

-- ---- transactions beside their outcomes
-- one more of each
zip-suc : {X Y : Type 0} (xs : List X) (ys : List Y) (i : ℕ) (x : X) (y : Y) → i < length xs → i < length ys
    → zip (take (suc i) xs) (take (suc i) ys)
    ≡ zip (take i xs) (take i ys) ++ (get_or xs i x, get_or ys i y) ∷ []
zip-suc [] ys i x y h k = absurd (omega (arith, h))
zip-suc (a ∷ xs) [] i x y h k = absurd (omega (arith, k))
zip-suc (a ∷ xs) (b ∷ ys) zero x y h k = refl
zip-suc {X = X} {Y = Y} (a ∷ xs) (b ∷ ys) (suc i) x y h k = ap (λ (l : List (X × Y)). (a, b) ∷ l) (zip-suc xs ys i x y (omega (arith, h)) (omega (arith, k)))

pub zip_more : {X Y : Type 0} (xs : List X) (ys : List Y) (i : ℕ) (x : X) (y : Y) → i < length xs
    → i < length ys → zip (take (i + 1) xs) (take (i + 1) ys)
    ≡ zip (take i xs) (take i ys) ++ (get_or xs i x, get_or ys i y) ∷ []
zip_more xs ys i x y h k = rw add-one (zip-suc xs ys i x y h k)

-- one more beside a list that grew
pub zip_pushed : {X Y : Type 0} (xs : List X) (ys : List Y) (x : X) (y : Y) → length ys < length xs
    → zip (take (length (ys ++ y ∷ [])) xs) (ys ++ y ∷ [])
    ≡ zip (take (length ys) xs) ys ++ (get_or xs (length ys) x, y) ∷ []
zip_pushed [] ys x y h = absurd (omega (arith, h))
zip_pushed (a ∷ xs) [] x y h = refl
zip_pushed {X = X} {Y = Y} (a ∷ xs) (b ∷ ys) x y h = ap (λ (l : List (X × Y)). (a, b) ∷ l) (zip_pushed xs ys x y (omega (arith, h)))

filter_map-more : {X Y : Type 0} (f : X → Option Y) (xs : List X) (x : X) → filter_map f (xs ++ x ∷ []) ≡ filter_map f xs ++ option_to_list (f x)
filter_map-more {Y = Y} f [] x = by_value (f x)
  where
    by_value : (o : Option Y) → cons_option o [] ≡ option_to_list o
    by_value None = refl
    by_value (Some y) = refl
filter_map-more {Y = Y} f (a ∷ xs) x = by_value (f a) (filter_map-more f xs x)
  where
    by_value : (o : Option Y) → filter_map f (xs ++ x ∷ []) ≡ filter_map f xs ++ option_to_list (f x)
        → cons_option o (filter_map f (xs ++ x ∷ [])) ≡ cons_option o (filter_map f xs) ++ option_to_list (f x)
    by_value None e = e
    by_value (Some y) e = ap (λ (l : List Y). y ∷ l) e

pub processed_more : (order : List Chosen) (outcomes : List Outcome) (i : ℕ) (t : Chosen) (o : Outcome) → i < length order → i < length outcomes
    → processed_in (take (i + 1) order) (take (i + 1) outcomes) ≡ processed_in (take i order) (take i outcomes) ++ option_to_list (processed_by (get_or order i t).name (get_or outcomes i o).status)
processed_more order outcomes i t o h k =
    ap (filter_map (λ (e : Chosen × Outcome). processed_by e.0.name e.1.status)) (zip_more order outcomes i t o h k)
    ∙ filter_map-more (λ (e : Chosen × Outcome). processed_by e.0.name e.1.status) (zip (take i order) (take i outcomes)) (get_or order i t, get_or outcomes i o)

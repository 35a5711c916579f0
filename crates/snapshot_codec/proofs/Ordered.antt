-- Items that stand above those before them, one after the other.
use Rattle.std.proofs.Common.{◌≡◌, ◌-◌, suc, List, [], ◌∷◌, ◌++◌, length, map, Bool, true, refl, sym, ap, subst, ◌∙◌, append_assoc, arith}
use Rattle.std.specs.Prelude.{slice_get, option_map, unwrap_or}
use Rattle.std.specs.List.{AllByRecursion, AllPairs}
use Rattle.std.specs.List.Sorted.{IsStrictlySortedBy}
use Rattle.std.specs.Cmp.{IsTotalOrder}
use Rattle.std.specs.Ordering.{is_lt}
use Rattle.std.specs.declared.cmp.Ordering.{Ordering}
use Rattle.std.specs.declared.cmp.Ordering.TheVariants.{Less}
use Rattle.std.proofs.lemmas.List.{append-nil}
use Rattle.std.proofs.lemmas.List.Elements.{All-from_recursion, recursion_from_All}
use Rattle.std.proofs.lemmas.List.Kept.{AllPairs-cons}
use Rattle.spec_base.specs.Reading.{AllAfter}
use Rattle.spec_base.proofs.Orders.{less}
use Rattle.snapshot_codec.specs.SnapshotReading.{last_passes}

last_passes-cons : {X : Type 0} (test : X → Bool) (x y : X) (xs : List X) → last_passes test (x ∷ y ∷ xs) ≡ last_passes test (y ∷ xs)
last_passes-cons {X = X} test x y xs =
    let all : length (x ∷ y ∷ xs) - 1 ≡ suc (length xs) = omega arith in
    let tail : length xs ≡ length (y ∷ xs) - 1 = omega arith in
    ap (λ n. unwrap_or (option_map test (slice_get (x ∷ y ∷ xs) n)) true) all ∙ ap (λ n. unwrap_or (option_map test (slice_get (y ∷ xs) n)) true) tail

-- what is asked of each item, told those before it, may be asked in parts
pub AllAfter-weaker : {X : Type 0} (P Q : List X → X → Type 0) → ((before : List X) (x : X) → P before x → Q before x) → (before xs : List X) → AllAfter P before xs → AllAfter Q before xs
AllAfter-weaker P Q so before [] h = tt
AllAfter-weaker P Q so before (x ∷ xs) h = (so before x h.0, AllAfter-weaker P Q so (before ++ x ∷ []) xs h.1)

pub AllAfter-both : {X : Type 0} (P Q : List X → X → Type 0) (before xs : List X) → AllAfter P before xs → AllAfter Q before xs → AllAfter (λ b x. P b x × Q b x) before xs
AllAfter-both P Q before [] h k = tt
AllAfter-both P Q before (x ∷ xs) h k = ((h.0, k.0), AllAfter-both P Q (before ++ x ∷ []) xs h.1 k.1)

module _ {X K : Type 0} (key : X → K) {cmp : K → K → Ordering} (total : IsTotalOrder cmp) where
  -- the item stands above the last of those before it
  abbrev pub IsNext : List X → X → Type 0
  IsNext before x = last_passes (λ last. is_lt (cmp (key last) (key x))) before ≡ true

  abbrev pub AreSorted : List X → Type 0
  AreSorted xs = IsStrictlySortedBy cmp (map key xs)

  AreBelow : List X → K → Type 0
  AreBelow xs k = AllByRecursion (λ (q : K). cmp q k ≡ Less) (map key xs)

  below_last : (xs : List X) (x : X) → AreSorted xs → IsNext xs x → AreBelow xs (key x)
  unfolding IsStrictlySortedBy AreBelow
  below_last [] x sorted next = tt
  below_last (y ∷ []) x sorted next = (less (cmp (key y) (key x)) next, tt)
  below_last (y ∷ z ∷ xs) x sorted next =
      let later = below_last (z ∷ xs) x sorted.1 (sym (last_passes-cons (λ last. is_lt (cmp (key last) (key x))) y z xs) ∙ next) in
      (total.trans (key y) (key z) (key x) sorted.0.0 later.0, later)

  last_below : (xs : List X) (x : X) → AreBelow xs (key x) → IsNext xs x
  unfolding AreBelow
  last_below [] x below = refl
  last_below (y ∷ []) x below = ap is_lt below.0
  last_below (y ∷ z ∷ xs) x below = last_passes-cons (λ last. is_lt (cmp (key last) (key x))) y z xs ∙ last_below (z ∷ xs) x below.1

  -- by recursion, as what is sorted has it; std's `All-push` speaks of places
  all_push : (P : K → Type 0) (xs : List X) (x : X) → AllByRecursion P (map key xs) → P (key x) → AllByRecursion P (map key (xs ++ x ∷ []))
  all_push P [] x all one = (one, tt)
  all_push P (y ∷ xs) x all one = (all.0, all_push P xs x all.1 one)

  sorted_push : (xs : List X) (x : X) → AreSorted xs → AreBelow xs (key x) → AreSorted (xs ++ x ∷ [])
  unfolding IsStrictlySortedBy AreBelow
  sorted_push [] x sorted below = (tt, tt)
  sorted_push (y ∷ xs) x sorted below = (all_push (λ (r : K). cmp (key y) r ≡ Less) xs x sorted.0 below.0, sorted_push xs x sorted.1 below.1)

  sorted_after : (before xs : List X) → AreSorted before → AllAfter IsNext before xs → AreSorted (before ++ xs)
  sorted_after before [] sorted all = subst AreSorted (sym (append-nil before)) sorted
  sorted_after before (x ∷ xs) sorted all =
      subst AreSorted (append_assoc before (x ∷ []) xs) (sorted_after (before ++ x ∷ []) xs (sorted_push before x sorted (below_last before x sorted all.0)) all.1)

  below_entry : (before after : List X) (x : X) → AreSorted (before ++ x ∷ after) → AreBelow before (key x)
  unfolding IsStrictlySortedBy AreBelow
  below_entry [] after x sorted = tt
  below_entry (y ∷ before) after x sorted = (within before after x (key y) sorted.0, below_entry before after x sorted.1)
    where
      within : (front back : List X) (z : X) (k : K) → AllByRecursion (λ (q : K). cmp k q ≡ Less) (map key (front ++ z ∷ back)) → cmp k (key z) ≡ Less
      within [] back z k all = all.0
      within (f ∷ front) back z k all = within front back z k all.1

  next_after : (before xs : List X) → AreSorted (before ++ xs) → AllAfter IsNext before xs
  next_after before [] sorted = tt
  next_after before (x ∷ xs) sorted =
      (last_below before x (below_entry before xs x sorted), next_after (before ++ x ∷ []) xs (subst AreSorted (sym (append_assoc before (x ∷ []) xs)) sorted))

  -- items each of which stands above the last before it are sorted
  pub sorted-from_next : (xs : List X) → AllAfter IsNext [] xs → AreSorted xs
  unfolding IsStrictlySortedBy
  sorted-from_next xs all = sorted_after [] xs tt all

  -- and the other way round
  pub next-from_sorted : (xs : List X) → AreSorted xs → AllAfter IsNext [] xs
  next-from_sorted xs sorted = next_after [] xs sorted

-- sorted by neighbours or by pairs

pub pairs-from_sorted : {K : Type 0} (cmp : K → K → Ordering) (ks : List K) → IsStrictlySortedBy cmp ks → AllPairs (λ a b. cmp a b ≡ Less) ks
unfolding IsStrictlySortedBy
pairs-from_sorted cmp [] sorted = λ i j d lt within. absurd (omega arith)
pairs-from_sorted cmp (k ∷ ks) sorted = AllPairs-cons (λ a b. cmp a b ≡ Less) k ks (All-from_recursion (λ b. cmp k b ≡ Less) ks sorted.0) (pairs-from_sorted cmp ks sorted.1)

pub sorted-from_pairs : {K : Type 0} (cmp : K → K → Ordering) (ks : List K) → AllPairs (λ a b. cmp a b ≡ Less) ks → IsStrictlySortedBy cmp ks
unfolding IsStrictlySortedBy
sorted-from_pairs cmp [] pairs = tt
sorted-from_pairs cmp (k ∷ ks) pairs = (
  recursion_from_All (λ b. cmp k b ≡ Less) ks (λ j d within. pairs 0 (suc j) d (omega arith) (omega arith)),
  sorted-from_pairs cmp ks (λ i j d lt within. pairs (suc i) (suc j) d (omega arith) (omega arith)),
)

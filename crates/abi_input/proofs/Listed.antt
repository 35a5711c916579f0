-- How a list of metas lists an account.
use Rattle.std.proofs.Common.{◌≡◌, ◌≢◌, ◌<◌, ◌≤◌, ◌+◌, ℕ, zero, suc, List, [], ◌∷◌, ◌++◌, length, take, get_or, set, replicate, Bool, true, false, ◌||◌, ◌&&◌, Some, None, slice_get, refl, sym, ap, ◌∙◌, subst, arith, add-zero, leb}
use Rattle.std.specs.Prelude.{nat_eq, nat_lt, not, Option, cond}
use Rattle.std.specs.Option.{option_or}
use Rattle.std.specs.List.{list_any, position, position_from, position_or_len}
use Rattle.std.proofs.lemmas.Bool.Decides.{nat_tests}
use Rattle.std.proofs.lemmas.List.{take_more, take_all, length-take-le, get_or-set_same, get_or-set_other, length-set}
use Rattle.std.proofs.lemmas.List.Folds.{list_any_more}
use Rattle.std.proofs.lemmas.Option.{slice_get-get_or, slice_get_within, get_or_from_slice_get}
use Rattle.std.proofs.lemmas.List.Quantifiers.{position-Some}
use Rattle.std.proofs.lemmas.Iterator.Adapters.{position_from-zero}
use Rattle.std.proofs.Math.Bool.{or-false, or-true}
use Rattle.sol_base.specs.declared.lock.Meta.{Meta}
use Rattle.sol_base.specs.Metas.{is_listed, is_first_listing}
use Rattle.abi_input.specs.declared.listing.Listing.{Listing}
use Rattle.abi_input.specs.Listing.{listing_in, listed_again, IsTableOf}
use Rattle.abi_input.specs.Region.{first_place}

-- the first place that passes, where the list gets one item more
from_push : {X : Type 0} (p : X → Bool) (i : ℕ) (xs : List X) (y : X) → position_from p i (xs ++ y ∷ []) ≡ option_or (position_from p i xs) (cond (p y) (Some (i + length xs)) None)
from_push p i [] y = rw add-zero refl
from_push p i (x ∷ xs) y =
    let later : i + 1 + length xs ≡ i + length (x ∷ xs) = omega arith in
    elim (p x) as (λ b. cond b (Some i) (position_from p (i + 1) (xs ++ y ∷ [])) ≡ option_or (cond b (Some i) (position_from p (i + 1) xs)) (cond (p y) (Some (i + length (x ∷ xs))) None))
    [ true ↦ refl | false ↦ from_push p (i + 1) xs y ∙ ap (λ n. option_or (position_from p (i + 1) xs) (cond (p y) (Some n) None)) later ]

position_push : {X : Type 0} (p : X → Bool) (xs : List X) (y : X) → position p (xs ++ y ∷ []) ≡ option_or (position p xs) (cond (p y) (Some (length xs)) None)
position_push p xs y =
    position_from-zero p (xs ++ y ∷ []) ∙ from_push p 0 xs y
    ∙ ap (λ n. option_or (position_from p 0 xs) (cond (p y) (Some n) None)) (zero_add (length xs))
    ∙ ap (λ o. option_or o (cond (p y) (Some (length xs)) None)) (sym (position_from-zero p xs))
  where
    zero_add : (n : ℕ) → 0 + n ≡ n
    zero_add n = omega arith

position_more : {X : Type 0} (p : X → Bool) (xs : List X) (k : ℕ) (d : X) → k < length xs → position p (take (k + 1) xs) ≡ option_or (position p (take k xs)) (cond (p (get_or xs k d)) (Some k) None)
position_more p xs k d lt =
    let long : length (take k xs) ≡ k = length-take-le k xs (omega arith) in
    ap (λ l. position p l) (take_more xs k d lt) ∙ position_push p (take k xs) (get_or xs k d) ∙ ap (λ n. option_or (position p (take k xs)) (cond (p (get_or xs k d)) (Some n) None)) long

no_more : (o : Option ℕ) → option_or o None ≡ o
no_more None = refl
no_more (Some x) = refl

-- one meta more, which lists the account or not
listing_more : (metas : List Meta) (k : ℕ) (d : Meta) (index : ℕ) → k < length metas
    → listing_in (take (k + 1) metas) index ≡ cond (nat_eq (get_or metas k d).index index) (listed_again (listing_in (take k metas) index) k (get_or metas k d)) (listing_in (take k metas) index)
listing_more metas k d index lt =
    let x : Meta = get_or metas k d in
    let first = position_more (λ (m : Meta). nat_eq m.index index) metas k d lt in
    let signer = list_any_more (λ (m : Meta). nat_eq m.index index && m.signer) metas k d lt in
    let writable = list_any_more (λ (m : Meta). nat_eq m.index index && m.writable) metas k d lt in
    by_case x (nat_eq x.index index) (listing_in (take k metas) index) (listing_in (take (k + 1) metas) index) first signer writable
  where
    same : (old new : Listing) → new.first ≡ old.first → new.signer ≡ old.signer → new.writable ≡ old.writable → new ≡ old
    same old new first signer writable =
        ap (λ (f : Option ℕ). let l : Listing = record { first = f; signer = new.signer; writable = new.writable } in l) first
        ∙ ap (λ (b : Bool). let l : Listing = record { first = old.first; signer = b; writable = new.writable } in l) signer
        ∙ ap (λ (b : Bool). let l : Listing = record { first = old.first; signer = old.signer; writable = b } in l) writable

    by_case : (x : Meta) (b : Bool) (old new : Listing) → new.first ≡ option_or old.first (cond b (Some k) None)
        → new.signer ≡ (old.signer || (b && x.signer)) → new.writable ≡ (old.writable || (b && x.writable))
        → new ≡ cond b (listed_again old k x) old
    by_case x true old new first signer writable = same (listed_again old k x) new first signer writable
    by_case x false old new first signer writable = same old new (first ∙ no_more old.first) (signer ∙ or-false old.signer) (writable ∙ or-false old.writable)

-- no account is listed at first
pub fresh_table : (n index : ℕ) → index < n → slice_get (replicate n (listing_in [] index)) index ≡ Some (listing_in [] index)
fresh_table zero index h = absurd (omega arith)
fresh_table (suc n) zero h = refl
fresh_table (suc n) (suc index) h = fresh_table n index (omega arith)

-- the table after one meta more
pub table_more : (metas : List Meta) (table : List Listing) (k place : ℕ) (d : Meta) (dl new : Listing) → k < length metas → place ≡ (get_or metas k d).index → place < 256 → length table ≡ 256
    → new ≡ listed_again (get_or table place dl) k (get_or metas k d) → IsTableOf (take k metas) table → IsTableOf (take (k + 1) metas) (set table place new)
table_more metas table k place d dl new lt e small long is seen index below =
    let here : slice_get (set table place new) index ≡ Some (get_or (set table place new) index dl) = slice_get-get_or (set table place new) index dl (rw length-set (omega arith)) in
    here ∙ ap Some (by_case (nat_eq (get_or metas k d).index index) refl) ∙ ap Some (sym (listing_more metas k d index lt))
  where
    by_case : (b : Bool) → nat_eq (get_or metas k d).index index ≡ b
        → get_or (set table place new) index dl
        ≡ cond b (listed_again (listing_in (take k metas) index) k (get_or metas k d))
        (listing_in (take k metas) index)
    by_case true same =
        let at : (get_or metas k d).index ≡ index = grind (arith, nat_tests) in
        let there : place ≡ index = e ∙ at in
        let before : get_or table place dl ≡ listing_in (take k metas) index = ap (λ n. get_or table n dl) there ∙ get_or_from_slice_get table index _ dl (seen index below) in
        ap (λ n. get_or (set table place new) n dl) (sym there) ∙ get_or-set_same table place new dl (omega arith) ∙ is ∙ ap (λ (l : Listing). listed_again l k (get_or metas k d)) before
    by_case false other =
        let apart : index ≢ place = λ same. absurd (grind (arith, nat_tests)) in
        get_or-set_other table place index new dl apart ∙ get_or_from_slice_get table index _ dl (seen index below)

-- what a test of a front says of the first place that passes
abbrev Before : Bool → ℕ → ℕ → Type 0
Before true n k = n < k
Before false n k = k ≤ n

before : {X : Type 0} (p : X → Bool) (xs : List X) (k : ℕ) → k ≤ length xs → Before (list_any p (take k xs)) (position_or_len p xs) k
before {X = X} p [] k h =
    let none : k ≡ 0 = omega arith in
    let empty : List X = [] in
    subst (λ (n : ℕ). Before (list_any p (take n empty)) 0 n) (sym none) (omega arith)
before p (x ∷ xs) zero h = omega arith
before p (x ∷ xs) (suc k) h = step (p x) (list_any p (take k xs)) (position_or_len p xs) (before p xs k (omega arith))
  where
    step : (b c : Bool) (n : ℕ) → Before c n k → Before (b || c) (cond (not b) (1 + n) 0) (suc k)
    step true c n e = omega arith
    step false true n e = omega arith
    step false false n e = omega arith

-- a meta of the list lists its account
lists_itself : (metas : List Meta) (k : ℕ) (x : Meta) → slice_get metas k ≡ Some x → first_place metas x.index ≤ k
lists_itself metas k x e =
    let lt : k < length metas = slice_get_within metas k x e in
    let there : get_or metas k x ≡ x = get_or_from_slice_get metas k x x e in
    let same : nat_eq (get_or metas k x).index x.index ≡ true = ap (λ (m : Meta). nat_eq m.index x.index) there ∙ self x.index in
    let any : is_listed (take (k + 1) metas) x.index ≡ true = list_any_more (λ (m : Meta). nat_eq m.index x.index) metas k x lt ∙ ap (λ b. is_listed (take k metas) x.index || b) same ∙ or-true _ in
    let below : Before true (first_place metas x.index) (k + 1) = subst
    (λ (b : Bool). Before b (first_place metas x.index) (k + 1)) any
    (before (λ (m : Meta). nat_eq m.index x.index) metas (k + 1) (omega arith)) in
    as_le below
  where
    self : (n : ℕ) → nat_eq n n ≡ true
    self n = grind (arith, nat_tests)

    as_le : {n k : ℕ} → Before true n (k + 1) → n ≤ k
    as_le h = omega arith

-- where no meta before it lists the account, its place is the first
pub place_at_first : (metas : List Meta) (k : ℕ) (x : Meta) → slice_get metas k ≡ Some x → is_listed (take k metas) x.index ≡ false → first_place metas x.index ≡ k
place_at_first metas k x e none =
    let lt : k < length metas = slice_get_within metas k x e in
    ends (lists_itself metas k x e) (subst (λ (b : Bool). Before b (first_place metas x.index) k) none (before (λ (m : Meta). nat_eq m.index x.index) metas k (omega arith)))
  where
    ends : {n k : ℕ} → n ≤ k → Before false n k → n ≡ k
    ends below above = omega arith

some_is : (b : Bool) (n i : ℕ) → cond b (Some n) None ≡ Some i → i ≡ n
some_is true n i e = cc
some_is false n i e = absurd (cc)

-- the first place is that of the listing
first_is : (metas : List Meta) (index i : ℕ) → (listing_in metas index).first ≡ Some i → i ≡ first_place metas index
first_is metas index i e = some_is _ _ i e

-- whether a meta is the first listing of its account, by the place of the first
pub first_test : (metas : List Meta) (k : ℕ) (x : Meta) (i : ℕ) → slice_get metas k ≡ Some x → (listing_in metas x.index).first ≡ Some i → leb k i ≡ is_first_listing metas (k, x)
first_test metas k x i e listed =
    let lt : k < length metas = slice_get_within metas k x e in
    let is : i ≡ first_place metas x.index = first_is metas x.index i listed in
    ap (λ n. leb k n) is ∙ by_case (is_listed (take k metas) x.index) (first_place metas x.index) (before (λ (m : Meta). nat_eq m.index x.index) metas k (omega arith))
  where
    by_case : (b : Bool) (n : ℕ) → Before b n k → leb k n ≡ not b
    by_case true n below = grind (arith, nat_tests)
    by_case false n above = grind (arith, nat_tests)

-- an account that a meta of the list lists has a first place
pub listed_there : (metas : List Meta) (k : ℕ) (x : Meta) → slice_get metas k ≡ Some x → (listing_in metas x.index).first ≡ Some (first_place metas x.index)
listed_there metas k x e =
    let lt : k < length metas = slice_get_within metas k x e in
    let le : first_place metas x.index ≤ k = lists_itself metas k x e in
    by_case (nat_lt (first_place metas x.index) (length metas)) refl (omega arith)
  where
    by_case : (b : Bool) → nat_lt (first_place metas x.index) (length metas) ≡ b
        → first_place metas x.index < length metas
        → cond b (Some (first_place metas x.index)) None ≡ Some (first_place metas x.index)
    by_case true test below = refl
    by_case false test below = absurd (grind (arith, nat_tests))

-- the listing that the table has of an account
pub table_at : (metas : List Meta) (table : List Listing) (index : ℕ) (d : Listing) → index < 256 → IsTableOf metas table → get_or table index d ≡ listing_in metas index
table_at metas table index d below seen = get_or_from_slice_get table index _ d (seen index below)

-- the first meta that lists an account
pub record IsFirstOf (metas : List Meta) (index : ℕ) (meta : Meta) : Type 0 where
  pub there : slice_get metas (first_place metas index) ≡ Some meta
  pub same : meta.index ≡ index
  pub first : is_first_listing metas (first_place metas index, meta) ≡ true

pub first_of_account : (metas : List Meta) (index : ℕ) → is_listed metas index ≡ true → (meta : Meta) × IsFirstOf metas index meta
first_of_account metas index listed =
    let lists : Meta → Bool = λ (m : Meta). nat_eq m.index index in
    let k : ℕ = first_place metas index in
    let d : Meta = record { index = 0; signer = false; writable = false } in
    let meta : Meta = get_or metas k d in
    let whole : list_any lists (take (length metas) metas) ≡ true = ap (λ (l : List Meta). list_any lists l) (take_all (length metas) metas (omega arith)) ∙ listed in
    let below : k < length metas = subst (λ (b : Bool). Before b k (length metas)) whole (before lists metas (length metas) (omega arith)) in
    let found : position lists metas ≡ Some k = by_case (nat_lt k (length metas)) refl below in
    let facts = position-Some lists metas k d found in
    let passes : nat_eq meta.index index ≡ true = facts.1 in
    let same : meta.index ≡ index = grind (arith, nat_tests) in
    let none : is_listed (take k metas) index ≡ false = not_before (list_any lists (take k metas)) (before lists metas k (omega arith)) in
    (meta, record { there = slice_get-get_or metas k d below; same = same; first = ap not (ap (λ n. is_listed (take k metas) n) same ∙ none) })
  where
    by_case : (b : Bool) → nat_lt (first_place metas index) (length metas) ≡ b → first_place metas index < length metas → cond b (Some (first_place metas index)) None ≡ Some (first_place metas index)
    by_case true test below = refl
    by_case false test below = absurd (grind (arith, nat_tests))

    not_before : (b : Bool) → Before b (first_place metas index) (first_place metas index) → b ≡ false
    not_before true h = absurd (omega arith)
    not_before false h = refl

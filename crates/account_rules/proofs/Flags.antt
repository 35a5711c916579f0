-- Arrays of flags that the metas set, one after the other.
use Rattle.std.proofs.Common.{◌≡◌, ◌≢◌, ℕ, ◌+◌, ◌<◌, Bool, true, false, ◌||◌, ◌&&◌, ◌==◌, List, length, take, replicate, get_or, set, nat_eq, slice_get, Some, refl, sym, ap, ◌∙◌, arith, get_or-set_other, get_or-set_same}
use Rattle.std.proofs.lemmas.Bool.Decides.{nat_tests}
use Rattle.std.proofs.lemmas.List.{get_or-replicate, length-replicate, length-set}
use Rattle.std.proofs.lemmas.Option.{get_or_from_slice_get, slice_get-get_or, slice_get_within}
use Rattle.std.proofs.lemmas.List.Folds.{list_any_more}
use Rattle.std.proofs.Math.Bool.{or-false, or-true, and-true, and-false}
use Rattle.sol_base.specs.declared.lock.Meta.{Meta}
use Rattle.sol_base.specs.Metas.{is_listed, is_listed_writable}
use Rattle.account_rules.specs.AccountRules.{AreFlagsOf}

-- a flag that is read
pub flag_at : (test : ℕ → Bool) (flags : List Bool) (place : ℕ) (t : Bool) → AreFlagsOf test flags → place < 256 → get_or flags place false ≡ t → test place ≡ t
flag_at test flags place t are below read = sym (get_or_from_slice_get flags place (test place) false (are place below)) ∙ read

-- no flag is set
pub no_flag : (test : ℕ → Bool) → ((place : ℕ) → test place ≡ false) → AreFlagsOf test (replicate 256 false)
no_flag test none place below = slice_get-get_or (replicate 256 false) place false (rw length-replicate below) ∙ ap Some (get_or-replicate 256 place false false below ∙ sym (none place))

-- one flag more is set
pub one_flag : (old new : ℕ → Bool) (flags : List Bool) (at : ℕ) → at < 256 → AreFlagsOf old flags → ((place : ℕ) → new place ≡ (old place || nat_eq at place)) → AreFlagsOf new (set flags at true)
one_flag old new flags at within was more place below = by_test (nat_eq at place) refl
  where
    long : {n : ℕ} → n < 256 → n < length (set flags at true)
    long {n} h = rw length-set (slice_get_within flags n (old n) (was n h))

    by_test : (t : Bool) → nat_eq at place ≡ t → slice_get (set flags at true) place ≡ Some (new place)
    by_test true here =
        let same : at ≡ place = grind (arith, nat_tests) in
        slice_get-get_or (set flags at true) place false (long below)
        ∙ ap Some (ap (λ p. get_or (set flags at true) p false) (sym same)
        ∙ get_or-set_same flags at true false (slice_get_within flags at (old at) (was at within))
        ∙ sym (more place ∙ ap (λ t. old place || t) here ∙ or-true (old place)))
    by_test false other =
        let differ : place ≢ at = grind (arith, nat_tests) in
        slice_get-get_or (set flags at true) place false (long below)
        ∙ ap Some (get_or-set_other flags at place true false differ
        ∙ get_or_from_slice_get flags place (old place) false (was place below)
        ∙ sym (more place ∙ ap (λ t. old place || t) other ∙ or-false (old place)))

-- a flag that is set already
pub again_flag : (old new : ℕ → Bool) (flags : List Bool) (at : ℕ) → AreFlagsOf old flags → old at ≡ true → ((place : ℕ) → new place ≡ (old place || nat_eq at place)) → AreFlagsOf new flags
again_flag old new flags at was already more place below = was place below ∙ ap Some (sym (more place ∙ by_test (nat_eq at place) refl))
  where
    by_test : (t : Bool) → nat_eq at place ≡ t → (old place || t) ≡ old place
    by_test true here =
        let same : at ≡ place = grind (arith, nat_tests) in
        or-true (old place) ∙ sym (ap old (sym same) ∙ already)
    by_test false other = or-false (old place)

-- no flag more is set
pub kept_flags : (old new : ℕ → Bool) (flags : List Bool) → AreFlagsOf old flags → ((place : ℕ) → new place ≡ old place) → AreFlagsOf new flags
kept_flags old new flags was same place below = was place below ∙ ap Some (sym (same place))

-- ---- one meta more
pub listed_more : (metas : List Meta) (n : ℕ) (d : Meta) (place : ℕ) → n < length metas
    → is_listed (take (n + 1) metas) place
    ≡ (is_listed (take n metas) place || nat_eq (get_or metas n d).index place)
listed_more metas n d place below = list_any_more (λ (meta : Meta). meta.index == place) metas n d below

pub listed_again : (metas : List Meta) (n : ℕ) (d : Meta) (place : ℕ) → n < length metas
    → is_listed (take n metas) (get_or metas n d).index ≡ true
    → is_listed (take (n + 1) metas) place ≡ is_listed (take n metas) place
listed_again metas n d place below again = listed_more metas n d place below ∙ by_test (nat_eq (get_or metas n d).index place) refl
  where
    by_test : (t : Bool) → nat_eq (get_or metas n d).index place ≡ t → (is_listed (take n metas) place || t) ≡ is_listed (take n metas) place
    by_test true here =
        let same : (get_or metas n d).index ≡ place = grind (arith, nat_tests) in
        or-true (is_listed (take n metas) place) ∙ sym (ap (is_listed (take n metas)) (sym same) ∙ again)
    by_test false other = or-false (is_listed (take n metas) place)

pub listed_here : (metas : List Meta) (n : ℕ) (d : Meta) → n < length metas → is_listed (take (n + 1) metas) (get_or metas n d).index ≡ true
listed_here metas n d below = listed_more metas n d (get_or metas n d).index below
    ∙ ap (λ t. is_listed (take n metas) (get_or metas n d).index || t) (self (get_or metas n d).index)
    ∙ or-true (is_listed (take n metas) (get_or metas n d).index)
  where
    self : (x : ℕ) → nat_eq x x ≡ true
    self x = grind (arith, nat_tests)

pub listed_else : (metas : List Meta) (n : ℕ) (d : Meta) (place : ℕ) → n < length metas → place ≢ (get_or metas n d).index → is_listed (take (n + 1) metas) place ≡ is_listed (take n metas) place
listed_else metas n d place below differ = listed_more metas n d place below
    ∙ ap (λ t. is_listed (take n metas) place || t) (other (get_or metas n d).index place differ)
    ∙ or-false (is_listed (take n metas) place)
  where
    other : (x y : ℕ) → y ≢ x → nat_eq x y ≡ false
    other x y differ = grind (arith, nat_tests)

pub writable_more : (metas : List Meta) (n : ℕ) (d : Meta) (place : ℕ) → n < length metas
    → is_listed_writable (take (n + 1) metas) place
    ≡ (is_listed_writable (take n metas) place ||
    (nat_eq (get_or metas n d).index place && (get_or metas n d).writable))
writable_more metas n d place below = list_any_more (λ (meta : Meta). meta.index == place && meta.writable) metas n d below

pub writable_yes : (metas : List Meta) (n : ℕ) (d : Meta) (place : ℕ) → n < length metas
    → (get_or metas n d).writable ≡ true
    → is_listed_writable (take (n + 1) metas) place
    ≡ (is_listed_writable (take n metas) place || nat_eq (get_or metas n d).index place)
writable_yes metas n d place below holds = writable_more metas n d place below
    ∙ ap (λ t. is_listed_writable (take n metas) place || (nat_eq (get_or metas n d).index place && t)) holds
    ∙ ap (λ t. is_listed_writable (take n metas) place || t) (and-true (nat_eq (get_or metas n d).index place))

pub writable_no : (metas : List Meta) (n : ℕ) (d : Meta) (place : ℕ) → n < length metas
    → (get_or metas n d).writable ≡ false
    → is_listed_writable (take (n + 1) metas) place ≡ is_listed_writable (take n metas) place
writable_no metas n d place below holds = writable_more metas n d place below
    ∙ ap (λ t. is_listed_writable (take n metas) place || (nat_eq (get_or metas n d).index place && t)) holds
    ∙ ap (λ t. is_listed_writable (take n metas) place || t) (and-false (nat_eq (get_or metas n d).index place))
    ∙ or-false (is_listed_writable (take n metas) place)

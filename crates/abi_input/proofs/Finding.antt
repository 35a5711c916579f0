-- The first of the first listings that passes a test.
use Rattle.std.proofs.Common.{◌≡◌, ◌+◌, ℕ, List, [], ◌∷◌, ◌++◌, length, take, drop, Bool, true, false, ◌&&◌, Some, None, slice_get, Err, refl, sym, ap, ◌∙◌}
use Rattle.std.specs.Prelude.{Option, cond, option_map}
use Rattle.std.specs.Option.{option_or}
use Rattle.std.specs.List.{enumerate_from, filter, find}
use Rattle.std.proofs.lemmas.List.{take-append-drop}
use Rattle.std.proofs.lemmas.List.Elements.{filter_more, filter-append}
use Rattle.std.proofs.lemmas.List.Folds.{find-append}
use Rattle.sol_base.specs.declared.lock.Meta.{Meta}
use Rattle.sol_base.specs.Metas.{is_first_listing, first_listings}
use Rattle.abi_input.specs.Entries.{found_among}
use Rattle.abi_input.specs.Region.{unless_found}
use Rattle.abi_input.specs.Answers.{IsPlaceOf}
use Rattle.abi_input.proofs.Entries.{item_at, item_within, all_items}

-- one meta more
found_step : (test : ℕ × Meta → Bool) (metas : List Meta) (k : ℕ) (meta : Meta) → slice_get metas k ≡ Some meta
    → found_among test metas (k + 1) ≡ option_or (found_among test metas k) (cond (is_first_listing metas (k, meta) && test (k, meta)) (Some (k, meta)) None)
found_step test metas k meta e =
    let items : List (ℕ × Meta) = enumerate_from 0 metas in
    let first : ℕ × Meta → Bool = is_first_listing metas in
    ap (λ (l : List (ℕ × Meta)). find test l)
    (filter_more first items k (k, meta) (item_within metas k meta e)
    ∙ ap (λ (x : ℕ × Meta). filter first (take k items) ++ cond (first x) (x ∷ []) [])
    (item_at metas k meta e))
    ∙ find-append test (filter first (take k items)) (cond (first (k, meta)) ((k, meta) ∷ []) [])
    ∙ ap (λ (o : Option (ℕ × Meta)). option_or (found_among test metas k) o) (one (first (k, meta)) (k, meta))
  where
    one : (b : Bool) (x : ℕ × Meta) → find test (cond b (x ∷ []) []) ≡ cond (b && test x) (Some x) None
    one true x = refl
    one false x = refl

-- a meta that does not pass
pub none_more : (test : ℕ × Meta → Bool) (metas : List Meta) (k : ℕ) (meta : Meta) (d : Bool) → slice_get metas k ≡ Some meta → d ≡ (is_first_listing metas (k, meta) && test (k, meta)) → d ≡ false
    → found_among test metas k ≡ None → found_among test metas (k + 1) ≡ None
none_more test metas k meta d e is fails none =
    found_step test metas k meta e ∙ ap (λ (o : Option (ℕ × Meta)). option_or o (cond (is_first_listing metas (k, meta) && test (k, meta)) (Some (k, meta)) None)) none
    ∙ ap (λ b. cond b (Some (k, meta)) None) (sym is ∙ fails)

-- what is found among the first metas is found among all
found_stays : (test : ℕ × Meta → Bool) (metas : List Meta) (k : ℕ) (x : ℕ × Meta) → found_among test metas k ≡ Some x → found_among test metas (length metas) ≡ Some x
found_stays test metas k x found =
    let items : List (ℕ × Meta) = enumerate_from 0 metas in
    let first : ℕ × Meta → Bool = is_first_listing metas in
    let whole : take (length metas) items ≡ take k items ++ drop k items = all_items metas ∙ sym (take-append-drop k items) in
    ap (λ (l : List (ℕ × Meta)). find test (filter first l)) whole
    ∙ ap (λ (l : List (ℕ × Meta)). find test l) (filter-append first (take k items) (drop k items))
    ∙ find-append test (filter first (take k items)) (filter first (drop k items))
    ∙ ap (λ (o : Option (ℕ × Meta)). option_or o (find test (filter first (drop k items)))) found

-- a meta that passes, where none before it does
pub found_here : (test : ℕ × Meta → Bool) (metas : List Meta) (k : ℕ) (meta : Meta) (d : Bool) → slice_get metas k ≡ Some meta → d ≡ (is_first_listing metas (k, meta) && test (k, meta)) → d ≡ true
    → found_among test metas k ≡ None → found_among test metas (length metas) ≡ Some (k, meta)
found_here test metas k meta d e is passes none =
    found_stays test metas (k + 1) (k, meta)
    (found_step test metas k meta e ∙ ap (λ (o : Option (ℕ × Meta)). option_or o (cond (is_first_listing metas (k, meta) && test (k, meta)) (Some (k, meta)) None)) none
    ∙ ap (λ b. cond b (Some (k, meta)) None) (sym is ∙ passes))

pub place_of_found : (found : Option (ℕ × Meta)) (k : ℕ) (meta : Meta) → found ≡ Some (k, meta) → IsPlaceOf found k
place_of_found found k meta e = ap (λ (o : Option (ℕ × Meta)). option_map (λ item. item.0) o) e

-- where none is found among all, no first listing passes
pub none_passes : (test : ℕ × Meta → Bool) (metas : List Meta) (k : ℕ) (meta : Meta)
    → slice_get metas k ≡ Some meta → found_among test metas (length metas) ≡ None
    → is_first_listing metas (k, meta) ≡ true → test (k, meta) ≡ false
none_passes test metas k meta e none first = by_test (test (k, meta)) refl
  where
    before : (o : Option (ℕ × Meta)) → found_among test metas k ≡ o → test (k, meta) ≡ true → test (k, meta) ≡ false
    before None none_before passes = absurd (let found = found_here test metas k meta true e (both (is_first_listing metas (k, meta)) (test (k, meta)) first passes) refl none_before in cc)
      where
        both : (a b : Bool) → a ≡ true → b ≡ true → true ≡ (a && b)
        both a b p q = rw (p, q) refl
    before (Some x) found passes = absurd (let stays = found_stays test metas k x found in cc)

    by_test : (b : Bool) → test (k, meta) ≡ b → test (k, meta) ≡ false
    by_test true passes = before (found_among test metas k) refl passes
    by_test false fails = fails

-- all first listings
pub found_all : (test : ℕ × Meta → Bool) (metas : List Meta) → found_among test metas (length metas) ≡ find test (first_listings metas)
found_all test metas = ap (λ (l : List (ℕ × Meta)). find test (filter (is_first_listing metas) l)) (all_items metas)

-- a refusal of the code is one of the definition
pub refused_back : {X : Type 0} (found : Option (ℕ × Meta)) (i : ℕ) (value : X) → IsPlaceOf found i → unless_found found value ≡ Err i
refused_back None i value e = absurd (cc)
refused_back (Some item) i value e = let same : item.0 ≡ i = (cc) in ap Err same

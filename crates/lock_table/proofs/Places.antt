-- The first place at which a test passes, when one more stands at the end.
use Rattle.std.proofs.Common.{◌≡◌, ℕ, ◌+◌, ◌<◌, ◌≤◌, Bool, true, false, cond, eqb, inl, inr, List, [], ◌∷◌, ◌++◌, length, Some, None, sym, ◌∙◌, ap, arith, length-append}
use Rattle.std.specs.List.{list_any, position, position_or_len}
use Rattle.std.proofs.lemmas.Bool.{both_ways, cond-true, cond-false, eq-eqb, ne_eqb, cases_eq, cases_lt, false_from_ne_true, lt-ltb, ltb-true}
use Rattle.std.proofs.lemmas.List.Folds.{list_any_at, list_any_none, position_or_len_push}
use Rattle.std.proofs.lemmas.List.Sums.{passes_at_first, fails_before_first, position_or_len_is}

-- no place where none passes
pub position-none : {X : Type 0} (p : X → Bool) (xs : List X) (d : X) → list_any p xs ≡ false → position p xs ≡ None
position-none p xs d h =
    cond-false _ _ None (false_from_ne_true _ (λ t. let l = ltb-true (position_or_len p xs) (length xs) t in both_ways _ h (list_any_at p xs (position_or_len p xs) d l (passes_at_first p xs d l))))

-- the first place, where there is one
pub position-some : {X : Type 0} (p : X → Bool) (xs : List X) → position_or_len p xs < length xs → position p xs ≡ Some (position_or_len p xs)
position-some p xs l = cond-true _ (Some (position_or_len p xs)) None (lt-ltb (position_or_len p xs) (length xs) l)

pub no_place : {X : Type 0} (p : X → Bool) (xs : List X) (d : X) → list_any p xs ≡ false → position_or_len p xs ≡ length xs
no_place p xs d h =
    position_or_len_is p xs (length xs) d (omega arith)
    (λ k l. false_from_ne_true _ (λ t. both_ways _ h (list_any_at p xs k d l t))) (λ l. absurd (omega arith))

-- the first place lies within, where one passes
pub place_below : {X : Type 0} (p : X → Bool) (xs : List X) → list_any p xs ≡ true → position_or_len p xs < length xs
place_below p xs h =
    elim (cases_lt (position_or_len p xs) (length xs)) [
      | inl l ↦ l
      | inr m ↦ absurd (both_ways _ (list_any_none p xs (λ k d l. fails_before_first p xs k d (omega (arith, l, m)))) h)
    ]

-- one more that passes, where none does yet
pub position_push-here : {X : Type 0} (p : X → Bool) (xs : List X) (y : X) → list_any p xs ≡ false → p y ≡ true → position p (xs ++ y ∷ []) ≡ Some (length xs)
position_push-here p xs y none h =
    let long = length-append xs (y ∷ []) in
    let place = place_is in
    position-some p (xs ++ y ∷ []) (omega (arith, place, long)) ∙ ap Some place
  where
    place_is : position_or_len p (xs ++ y ∷ []) ≡ length xs
    place_is =
        position_or_len_push p xs y
        ∙ cond-true (eqb (position_or_len p xs) (length xs)) _ _ (eq-eqb _ _ (no_place p xs y none))
        ∙ (let o : cond (p y) 0 1 ≡ 0 = cond-true {A = ℕ} (p y) 0 1 h in omega (arith, o))

-- where one passes, what stands behind changes nothing
pub position_push-found : {X : Type 0} (p : X → Bool) (xs : List X) (y : X) → position_or_len p xs < length xs → position p (xs ++ y ∷ []) ≡ position p xs
position_push-found p xs y l =
    let long = length-append xs (y ∷ []) in
    let place = same in
    position-some p (xs ++ y ∷ []) (omega (arith, place, long, l)) ∙ (ap Some place ∙ sym (position-some p xs l))
  where
    same : position_or_len p (xs ++ y ∷ []) ≡ position_or_len p xs
    same = position_or_len_push p xs y ∙ cond-false (eqb (position_or_len p xs) (length xs)) _ _ (ne_eqb _ _ (λ e. omega (arith, e, l)))

-- one more that does not pass
pub position_push-other : {X : Type 0} (p : X → Bool) (xs : List X) (y : X) → p y ≡ false → position p (xs ++ y ∷ []) ≡ position p xs
position_push-other {X = X} p xs y h =
    elim (cases_lt (position_or_len p xs) (length xs)) [
      | inl l ↦ position_push-found p xs y l
      | inr m ↦ beyond p (xs ++ y ∷ []) (behind m) ∙ sym (beyond p xs m)
    ]
  where
    beyond : (q : X → Bool) (zs : List X) → length zs ≤ position_or_len q zs → position q zs ≡ None
    beyond q zs m = cond-false _ _ None (false_from_ne_true _ (λ t. let l = ltb-true (position_or_len q zs) (length zs) t in absurd (omega arith)))

    behind : length xs ≤ position_or_len p xs → length (xs ++ y ∷ []) ≤ position_or_len p (xs ++ y ∷ [])
    behind m =
        let e = position_or_len_push p xs y in
        let o : cond (p y) 0 1 ≡ 1 = cond-false {A = ℕ} (p y) 0 1 h in
        let long = length-append xs (y ∷ []) in
        elim (cases_eq (position_or_len p xs) (length xs)) [
          | inl q ↦ let f : position_or_len p (xs ++ y ∷ []) ≡ length xs + cond (p y) 0 1 = e ∙ cond-true (eqb (position_or_len p xs) (length xs)) _ _ (eq-eqb _ _ q) in omega (arith, f, o, long)
          | inr d ↦ let f : position_or_len p (xs ++ y ∷ []) ≡ position_or_len p xs = e ∙ cond-false (eqb (position_or_len p xs) (length xs)) _ _ (ne_eqb _ _ d) in omega (arith, f, long, m, d)
        ]

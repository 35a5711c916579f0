-- Lists where a function gives something of some items, walked from the front.
use Rattle.std.proofs.Common.{◌≡◌, ℕ, ◌+◌, ◌<◌, List, [], ◌∷◌, ◌++◌, length, take, drop, get_or, sym, ap, ◌∙◌, Option, Some, None, drop-cons, add-one, refl}
use Rattle.std.specs.List.{filter_map, cons_option}
use Rattle.std.proofs.lemmas.List.{take_more, take-append-drop}
use Rattle.std.proofs.lemmas.List.Elements.{filter_map-append}

-- nothing of the first items, and nothing of the next
pub nothing_more : {X Y : Type 0} (f : X → Option Y) (xs : List X) (n : ℕ) (d : X) → n < length xs → filter_map f (take n xs) ≡ [] → f (get_or xs n d) ≡ None → filter_map f (take (n + 1) xs) ≡ []
nothing_more f xs n d below none here = rw (take_more xs n d below, filter_map-append f (take n xs) (get_or xs n d ∷ []), none, here) refl

-- nothing of the first items, and something of the next
pub first_found : {X Y : Type 0} (f : X → Option Y) (xs : List X) (n : ℕ) (d : X) (y : Y) → n < length xs
    → filter_map f (take n xs) ≡ [] → f (get_or xs n d) ≡ Some y
    → filter_map f xs ≡ y ∷ filter_map f (drop (n + 1) xs)
first_found f xs n d y below none here =
    let split : xs ≡ take n xs ++ (get_or xs n d ∷ drop (n + 1) xs) = sym (take-append-drop n xs) ∙ ap (λ ys. take n xs ++ ys) (rw add-one (drop-cons xs n d below)) in
    ap (filter_map f) split ∙ filter_map-append f (take n xs) (get_or xs n d ∷ drop (n + 1) xs)
    ∙ ap (λ ys. ys ++ filter_map f (get_or xs n d ∷ drop (n + 1) xs)) none
    ∙ ap (λ o. cons_option o (filter_map f (drop (n + 1) xs))) here

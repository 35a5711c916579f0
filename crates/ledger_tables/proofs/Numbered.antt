-- Lists that are made item by item, each with its place.
use Rattle.std.proofs.Common.{◌≡◌, ◌<◌, ◌+◌, ℕ, List, [], ◌∷◌, ◌++◌, length, take, map, get_or, refl, sym, ap, ◌∙◌, append_assoc, append-nil, arith}
use Rattle.std.specs.List.{enumerate_from, flat_map}
use Rattle.std.proofs.lemmas.List.{take_more, length-take}
use Rattle.spec_base.proofs.Lists.{flat_numbered, map_numbered}

-- what one item more gives
pub flat_more : {X Y : Type 0} (f : ℕ × X → List Y) (i : ℕ) (xs : List X) (d : X) → i < length xs
    → flat_map f (enumerate_from 0 (take (i + 1) xs)) ≡ flat_map f (enumerate_from 0 (take i xs)) ++ f (i, get_or xs i d)
flat_more f i xs d lt =
    let long : length (take i xs) ≡ i = rw length-take (omega arith) in
    ap (λ l. flat_map f (enumerate_from 0 l)) (take_more xs i d lt)
    ∙ flat_numbered f 0 i (take i xs) (get_or xs i d ∷ []) (omega arith)
    ∙ ap (λ l. flat_map f (enumerate_from 0 (take i xs)) ++ l) (append-nil (f (i, get_or xs i d)))

pub map_more : {X Y : Type 0} (f : ℕ × X → Y) (i : ℕ) (xs : List X) (d : X) → i < length xs
    → map f (enumerate_from 0 (take (i + 1) xs)) ≡ map f (enumerate_from 0 (take i xs)) ++ f (i, get_or xs i d) ∷ []
map_more f i xs d lt =
    let long : length (take i xs) ≡ i = rw length-take (omega arith) in
    ap (λ l. map f (enumerate_from 0 l)) (take_more xs i d lt)
    ∙ map_numbered f 0 i (take i xs) (get_or xs i d ∷ []) (omega arith)

-- one item more was pushed
pub pushed_more : {X Y : Type 0} (f : ℕ × X → Y) (i : ℕ) (xs : List X) (x : X) (start old new : List Y) (y : Y) → i < length xs → x ≡ get_or xs i x → y ≡ f (i, x)
    → old ≡ start ++ map f (enumerate_from 0 (take i xs)) → new ≡ old ++ y ∷ [] → new ≡ start ++ map f (enumerate_from 0 (take (i + 1) xs))
pushed_more f i xs x start old new y lt is told so_far added =
    let before = map f (enumerate_from 0 (take i xs)) in
    added ∙ ap (λ l. l ++ y ∷ []) so_far ∙ append_assoc start before (y ∷ [])
    ∙ ap (λ z. start ++ (before ++ z ∷ [])) (told ∙ ap (λ z. f (i, z)) is) ∙ ap (λ l. start ++ l) (sym (map_more f i xs x lt))

-- what one item more gives was appended
pub appended_more : {X Y : Type 0} (f : ℕ × X → List Y) (i : ℕ) (xs : List X) (x : X) (start old new : List Y) → i < length xs → x ≡ get_or xs i x
    → old ≡ start ++ flat_map f (enumerate_from 0 (take i xs)) → new ≡ old ++ f (i, x) → new ≡ start ++ flat_map f (enumerate_from 0 (take (i + 1) xs))
appended_more f i xs x start old new lt is so_far added =
    let before = flat_map f (enumerate_from 0 (take i xs)) in
    added ∙ ap (λ l. l ++ f (i, x)) so_far ∙ append_assoc start before (f (i, x))
    ∙ ap (λ z. start ++ (before ++ f (i, z))) is ∙ ap (λ l. start ++ l) (sym (flat_more f i xs x lt))

-- Lists that are made item by item, each with its place.
use Rattle.std.proofs.Common.{◌≡◌, ◌<◌, ◌+◌, ℕ, List, [], ◌∷◌, ◌++◌, length, take, get_or, refl, sym, ap, ◌∙◌, append_assoc, append-nil, arith}
use Rattle.std.specs.List.{enumerate_from, flat_map}
use Rattle.std.proofs.lemmas.List.{take_more, length-take}
use Rattle.spec_base.proofs.Lists.{flat_numbered}

-- what one item more gives
pub once_more : {X Y : Type 0} (f : ℕ × X → List Y) (i : ℕ) (xs : List X) (d : X) → i < length xs
    → flat_map f (enumerate_from 0 (take i xs)) ++ f (i, get_or xs i d) ≡ flat_map f (enumerate_from 0 (take (i + 1) xs))
once_more f i xs d lt =
    let long : length (take i xs) ≡ i = rw length-take (omega arith) in
    sym (ap (λ l. flat_map f (enumerate_from 0 l)) (take_more xs i d lt)
    ∙ flat_numbered f 0 i (take i xs) (get_or xs i d ∷ []) (omega arith)
    ∙ ap (λ l. flat_map f (enumerate_from 0 (take i xs)) ++ l) (append-nil (f (i, get_or xs i d))))

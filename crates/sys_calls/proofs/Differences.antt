-- The first bytes that differ, place by place and piece by piece.
use Rattle.std.proofs.Common.{◌≡◌, ℕ, zero, suc, ◌+◌, ◌<◌, ◌≤◌, ◌==◌, Bool, true, false, List, [], ◌∷◌, length, take, drop, get_or, Option, Some, None, refl, sym, ap, ◌∙◌, if◌then◌else◌}
use Rattle.std.specs.Prelude.{unwrap_or}
use Rattle.std.specs.Option.{option_map}
use Rattle.std.proofs.lemmas.List.{drop_more, drop_all, drop-drop}
use Rattle.sys_calls.specs.SysCalls.{differing, difference, first_difference}

-- at one place
pub differing-at : (xs ys : List ℕ) (i : ℕ) → i < length xs → i < length ys
    → differing (drop i xs) (drop i ys)
    ≡ (if get_or xs i 0 == get_or ys i 0 then differing (drop (i + 1) xs) (drop (i + 1) ys) else Some
    (get_or xs i 0, get_or ys i 0))
differing-at xs ys i one other = rw (drop_more xs i 0 one, drop_more ys i 0 other) refl

-- past the last place
pub differing-past : (xs ys : List ℕ) (i : ℕ) → length xs ≤ i → differing (drop i xs) (drop i ys) ≡ None
differing-past xs ys i past = rw (drop_all i xs past) refl

pub ruleset differences = (differing-at, differing-past)

abbrev or_then : Option (ℕ × ℕ) → Option (ℕ × ℕ) → Option (ℕ × ℕ)
or_then None rest = rest
or_then (Some pair) rest = Some pair

choose : (b : Bool) (pair : ℕ × ℕ) (one rest all : Option (ℕ × ℕ)) → all ≡ or_then one rest → (if b then all else Some pair) ≡ or_then (if b then one else Some pair) rest
choose true pair one rest all h = h
choose false pair one rest all h = refl

differing-nil : (xs : List ℕ) → differing xs [] ≡ None
differing-nil [] = refl
differing-nil (x ∷ xs) = refl

-- what differs in a piece, or after it
differing-split : (n : ℕ) (xs ys : List ℕ) → differing xs ys ≡ or_then (differing (take n xs) (take n ys)) (differing (drop n xs) (drop n ys))
differing-split zero xs ys = refl
differing-split (suc n) [] ys = refl
differing-split (suc n) (x ∷ xs) [] = sym (differing-nil (drop n xs))
differing-split (suc n) (x ∷ xs) (y ∷ ys) = choose (x == y) (x, y) (differing (take n xs) (take n ys)) (differing (drop n xs) (drop n ys)) (differing xs ys) (differing-split n xs ys)

some-found : (d : ℕ) (o rest : Option (ℕ × ℕ)) → Some d ≡ option_map difference o → d ≡ unwrap_or (option_map difference (or_then o rest)) 0
some-found d None rest h = absurd (cc)
some-found d (Some pair) rest h = cc

none-found : (o rest : Option (ℕ × ℕ)) → None ≡ option_map difference o → or_then o rest ≡ rest
none-found None rest h = refl
none-found (Some pair) rest h = absurd (cc)

-- a piece in which bytes differ
pub piece-found : (xs ys a b : List ℕ) (at n d : ℕ) → a ≡ take n (drop at xs) → b ≡ take n (drop at ys)
    → Some d ≡ option_map difference (differing a b) → differing xs ys ≡ differing (drop at xs) (drop at ys)
    → d ≡ first_difference xs ys
piece-found xs ys a b at n d one other found same =
    let here : Some d ≡ option_map difference (differing (take n (drop at xs)) (take n (drop at ys))) = rw (one, other) at found in
    rw (same, differing-split n (drop at xs) (drop at ys)) (some-found d (differing (take n (drop at xs)) (take n (drop at ys))) (differing (drop n (drop at xs)) (drop n (drop at ys))) here)

-- a piece in which no bytes differ
pub piece-passed : (xs ys a b : List ℕ) (at n : ℕ) → a ≡ take n (drop at xs) → b ≡ take n (drop at ys)
    → None ≡ option_map difference (differing a b) → differing xs ys ≡ differing (drop at xs) (drop at ys)
    → differing xs ys ≡ differing (drop (at + n) xs) (drop (at + n) ys)
piece-passed xs ys a b at n one other none same =
    let here : None ≡ option_map difference (differing (take n (drop at xs)) (take n (drop at ys))) = rw (one, other) at none in
    same ∙ differing-split n (drop at xs) (drop at ys)
    ∙ none-found (differing (take n (drop at xs)) (take n (drop at ys))) (differing (drop n (drop at xs)) (drop n (drop at ys))) here
    ∙ ap (λ (l : List ℕ). differing l (drop n (drop at ys))) (drop-drop n at xs)
    ∙ ap (λ (l : List ℕ). differing (drop (at + n) xs) l) (drop-drop n at ys)

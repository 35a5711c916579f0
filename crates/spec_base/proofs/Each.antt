-- Items done one after the other, as a loop does them.
use Rattle.std.proofs.Common.{◌≡◌, ℕ, suc, ◌+◌, ◌<◌, ◌≤◌, List, [], ◌∷◌, ◌++◌, length, drop, get_or, Result, Ok, Err, Bool, true, false, refl, sym, ap, ◌∙◌, append_assoc, append-nil}
use Rattle.std.specs.Prelude.{MatchBool}
use Rattle.std.proofs.lemmas.List.{drop_more, drop_all}
use Rattle.spec_base.specs.Reading.{◌>>=◌, each}

-- what was done and then the rest
abbrev pub joined : {Y E : Type 0} → List Y → Result (List Y) E → Result (List Y) E
joined done rest = rest >>= (λ more. Ok (done ++ more))

joined-more : {Y E : Type 0} (done : List Y) (y : Y) (rest : Result (List Y) E) → joined done (rest >>= (λ ys. Ok (y ∷ ys))) ≡ joined (done ++ y ∷ []) rest
joined-more done y (Ok ys) = ap Ok (sym (append_assoc done (y ∷ []) ys))
joined-more done y (Err e) = refl

-- one item more is done
pub each-more : {X Y E : Type 0} (one : X → Result Y E) (done : List Y) (xs : List X) (i : ℕ) (d : X) (y : Y)
    → i < length xs → one (get_or xs i d) ≡ Ok y
    → joined done (each one (drop i xs)) ≡ joined (done ++ y ∷ []) (each one (drop (i + 1) xs))
unfolding each
each-more one done xs i d y below h = rw (drop_more xs i d below, h) (joined-more done y (each one (drop (i + 1) xs)))

-- the next is refused
pub each-ends : {X Y E : Type 0} (one : X → Result Y E) (done : List Y) (xs : List X) (i : ℕ) (d : X) (e : E) → i < length xs → one (get_or xs i d) ≡ Err e → joined done (each one (drop i xs)) ≡ Err e
unfolding each
each-ends one done xs i d e below h = rw (drop_more xs i d below, h) refl

-- the next is refused, or memory ran out
pub each-stops : {X Y E : Type 0} (is_memory : E → Bool) (one : X → Result Y E) (done : List Y) (xs : List X)
    (i : ℕ) (d : X) (e : E) (total : Result (List Y) E) → i < length xs
    → MatchBool (is_memory e) (Unit {0}) (one (get_or xs i d) ≡ Err e)
    → joined done (each one (drop i xs)) ≡ total → MatchBool (is_memory e) (Unit {0}) (total ≡ Err e)
each-stops is_memory one done xs i d e total below h so_far = by_case (is_memory e) h
  where
    by_case : (b : Bool) → MatchBool b (Unit {0}) (one (get_or xs i d) ≡ Err e) → MatchBool b (Unit {0}) (total ≡ Err e)
    by_case true g = tt
    by_case false g = sym so_far ∙ each-ends one done xs i d e below g

-- all are done
pub each-done : {X Y E : Type 0} (one : X → Result Y E) (done : List Y) (xs : List X) (i : ℕ) → length xs ≤ i → joined done (each one (drop i xs)) ≡ Ok done
unfolding each
each-done one done xs i past = rw (drop_all i xs past) (ap Ok (append-nil done))

-- so many are done as there are
abbrev pub Counts : {Y E : Type 0} → ℕ → Result (List Y) E → Type 0
Counts count (Ok ys) = length ys ≡ count
Counts count (Err e) = Unit {0}

pub each-counts : {X Y E : Type 0} (one : X → Result Y E) (xs : List X) → Counts (length xs) (each one xs)
unfolding each
each-counts one [] = refl
each-counts one (x ∷ xs) = then (length xs) (one x) (each one xs) (each-counts one xs)
  where
    then : {Y E : Type 0} (count : ℕ) (first : Result Y E) (rest : Result (List Y) E) → Counts count rest → Counts (suc count) (first >>= (λ y. rest >>= (λ ys. Ok (y ∷ ys))))
    then count (Ok y) (Ok ys) counts = ap suc counts
    then count (Ok y) (Err e) counts = tt
    then count (Err e) rest counts = tt

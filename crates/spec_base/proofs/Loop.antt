-- Reading items one after the other, as a loop does.
use Rattle.std.proofs.Common.{◌≡◌, ℕ, suc, ◌-◌, ◌+◌, ◌≤◌, ◌<◌, List, [], ◌∷◌, ◌++◌, Result, Ok, Err, Bool, true, false, refl, sym, ◌∙◌, arith}
use Rattle.std.specs.Prelude.{MatchBool}
use Rattle.spec_base.specs.Reading.{many_after}

-- one item more was read
pub goes_on : {X E : Type 0} (one : List X → List ℕ → Result (X × List ℕ) E) (before : List X) (count i : ℕ)
    (bytes : List ℕ) (x : X) (after : List ℕ) (total : Result (List X × List ℕ) E) → i < count
    → one before bytes ≡ Ok (x, after)
    → many_after one before (count - i) bytes ≡ total → many_after one (before ++ x ∷ []) (count - (i + 1)) after ≡ total
unfolding many_after
goes_on one before count i bytes x after total lt h so_far =
    let k : count - i ≡ suc (count - (i + 1)) = omega arith in
    let first : many_after one before (count - i) bytes ≡ many_after one (before ++ x ∷ []) (count - (i + 1)) after = rw (k, h) refl in
    sym first ∙ so_far

-- the next item is refused
pub ends : {X E : Type 0} (one : List X → List ℕ → Result (X × List ℕ) E) (is_memory : E → Bool) (e : E)
    (before : List X) (count i : ℕ) (bytes : List ℕ) (total : Result (List X × List ℕ) E) → i < count
    → MatchBool (is_memory e) (Unit {0}) (one before bytes ≡ Err e)
    → many_after one before (count - i) bytes ≡ total → MatchBool (is_memory e) (Unit {0}) (total ≡ Err e)
unfolding many_after
ends one is_memory e before count i bytes total lt h so_far = by_case (is_memory e) h
  where
    by_case : (b : Bool) → MatchBool b (Unit {0}) (one before bytes ≡ Err e) → MatchBool b (Unit {0}) (total ≡ Err e)
    by_case true g = tt
    by_case false g =
        let k : count - i ≡ suc (count - (i + 1)) = omega arith in
        let first : many_after one before (count - i) bytes ≡ Err e = rw (k, g) refl in
        sym so_far ∙ first

-- all items were read
pub is_done : {X E : Type 0} (one : List X → List ℕ → Result (X × List ℕ) E) (before : List X) (count i : ℕ)
    (bytes : List ℕ) (total : Result (List X × List ℕ) E) → count ≤ i
    → many_after one before (count - i) bytes ≡ total → total ≡ Ok (before, bytes)
unfolding many_after
is_done one before count i bytes total le so_far =
    let k : count - i ≡ 0 = omega arith in
    let first : many_after one before (count - i) bytes ≡ Ok (before, bytes) = rw k refl in
    sym so_far ∙ first

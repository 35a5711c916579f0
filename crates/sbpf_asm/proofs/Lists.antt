-- Lists that are put together piece by piece.
use Rattle.std.proofs.Common.{◌≡◌, ℕ, suc, ◌+◌, ◌-◌, ◌<◌, List, ◌++◌, sym, ap, ◌∙◌, arith, append_assoc}
use Rattle.std.specs.List.{flat_map, range_with_len}

-- one more number of a range
pub range_step : (f : ℕ → List ℕ) (out : List ℕ) (p n : ℕ) → p < n → out ++ flat_map f (range_with_len p (n - p)) ≡ (out ++ f p) ++ flat_map f (range_with_len (p + 1) (n - (p + 1)))
range_step f out p n h =
    let e : n - p ≡ suc (n - (p + 1)) = omega arith in
    ap (λ (k : ℕ). out ++ flat_map f (range_with_len p k)) e ∙ sym (append_assoc out (f p) (flat_map f (range_with_len (p + 1) (n - (p + 1)))))

-- The positions that a lane has passed, one more.
use Rattle.std.proofs.Common.{◌≡◌, ℕ, List, [], ◌∷◌, ◌++◌, Option, Some, None, refl, ap, ◌∙◌}
use Rattle.std.specs.List.{last_or}

last_pushed : (d : Option ℕ) (ps : List ℕ) (p : ℕ) → last_or d (ps ++ p ∷ []) ≡ Some p
last_pushed d [] p = refl
last_pushed d (x ∷ xs) p = last_pushed (Some x) xs p

-- the position that was passed once more is the last one
pub just_passed : (old : List ℕ) (p : ℕ) (new : List ℕ) → new ≡ old ++ p ∷ [] → last_or None new ≡ Some p
just_passed old p new once = ap (last_or None) once ∙ last_pushed None old p

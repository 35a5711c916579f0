-- Labels in the map that the code has them in.
use Rattle.std.proofs.Common.{◌≡◌, ℕ, cond, List, [], ◌∷◌, Option, Some, refl, ap}
use Rattle.std.specs.Str.{bytes_eq}
use Rattle.std.specs.Borrow.{Bor}
use Rattle.std.specs.Map.{lookup}
use Rattle.sbpf_asm.specs.Words.{Text}
use Rattle.sbpf_asm.specs.Assembly.{place_in}
use Rattle.sbpf_asm.specs.Views.{labels_view}

-- the place of a label is what the map has for it
pub place_found : (name : Text) (entries : List (Bor (List ℕ) × ℕ)) → place_in name (labels_view entries) ≡ lookup (λ k. bytes_eq name k.now) entries
place_found name [] = refl
place_found name (e ∷ es) = ap (λ (o : Option ℕ). cond (bytes_eq name e.0.now) (Some e.1) o) (place_found name es)

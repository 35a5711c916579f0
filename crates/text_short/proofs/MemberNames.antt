-- A name that is not this one.
use Rattle.std.proofs.Common.{◌≡◌, ℕ, List, false, sym}
use Rattle.std.specs.Str.{bytes_eq}
use Rattle.std.proofs.lemmas.Bool.{false_from_ne_true}
use Rattle.std.proofs.lemmas.Slice.Eq.{bytes_eq-Decides}

pub differs : (one name : List ℕ) → (name ≡ one → ⊥) → bytes_eq one name ≡ false
differs one name other = false_from_ne_true (bytes_eq one name) (λ same. other (sym ((bytes_eq-Decides one name).0 same)))

-- Frames that wait, in the order of a vector and in their own.
use Rattle.std.proofs.Common.{◌≡◌, ◌∷◌, [], List, refl, sym, ap, ◌∙◌}
use Rattle.std.specs.Prelude.{reverse, ◌||◌}
use Rattle.std.specs.List.{list_any}
use Rattle.std.proofs.lemmas.List.Sorted.{list_any-IsPermutation, IsPermutation-reverse}
use Rattle.sol_base.specs.declared.key.Key.{Key}
use Rattle.sol_base.specs.Keys.{same_key, has_key}
use Rattle.invoke_engine.specs.Frames.{Running}
use Rattle.invoke_engine.specs.Suspended.{programs_of}

has_map : (key : Key) (fs : List Running) → has_key key (programs_of fs) ≡ list_any (λ (f : Running). same_key key f.program) fs
has_map key [] = refl
has_map key (f ∷ fs) = ap (λ b. same_key key f.program || b) (has_map key fs)

pub has_reversed : (key : Key) (fs : List Running) → has_key key (programs_of (reverse fs)) ≡ list_any (λ (f : Running). same_key key f.program) fs
has_reversed key fs =
    has_map key (reverse fs) ∙ sym (list_any-IsPermutation (λ (f : Running). same_key key f.program) fs (reverse fs) (IsPermutation-reverse fs))

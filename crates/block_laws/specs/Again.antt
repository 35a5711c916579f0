-- Transactions of a batch that are admitted again, alone and in their order.
use Rattle.std.specs.Prelude.{◌≡◌, ℕ, ◌+◌, List, [], ◌∷◌, map}
use Rattle.admission.specs.declared.chosen.Admitted.{Admitted}
use Rattle.admission.specs.declared.chosen.Chosen.{Chosen}
use Rattle.admission.specs.Admission.{Start, admitted, listed}
use Rattle.admission.specs.Batches.{wire_in}

-- the wires of these transactions, in their order
abbrev pub wires_in : List (List ℕ) → List Chosen → List (List ℕ)
wires_in wires order = map (λ chosen. wire_in wires chosen.position) order

-- these transactions at the positions from n on
abbrev pub renumbered : ℕ → List Chosen → List Chosen
renumbered n [] = []
renumbered n (chosen ∷ order) = record chosen { position = n } ∷ renumbered (n + 1) order

-- all of these, and none refused
abbrev pub all_of : List Chosen → Admitted
all_of order = record { order = renumbered 0 order; refused = [] }

-- what a batch admits by priority, listed in that order
abbrev pub AreAdmittedAgain : Start → List (List ℕ) → Type 0
AreAdmittedAgain start wires =
    let order = (admitted start wires).order in listed start (wires_in wires order) ≡ all_of order

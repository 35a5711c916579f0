-- How the positions of a batch are parted into those that run and those that are refused.
use Rattle.std.specs.Prelude.{◌≡◌, ℕ, ◌<◌, ◌⊎◌, List, length, map, nat_eq, AllPairs, Any}
use Rattle.std.specs.List.{IsDistinct}
use Rattle.admission.specs.declared.chosen.Admitted.{Admitted}

-- the transaction at this position runs
abbrev pub Runs : Admitted → ℕ → Type 0
Runs answer position = Any (λ chosen. chosen.position ≡ position) answer.order

-- it is refused
abbrev pub IsRefused : Admitted → ℕ → Type 0
IsRefused answer position = Any (λ refused. refused.position ≡ position) answer.refused

-- each position runs or is refused, and none does both; none runs twice, and those that are
-- refused ascend
pub record PositionsAreParted (wires : List (List ℕ)) (answer : Admitted) : Type 0 where
  pub each : (position : ℕ) → position < length wires
      → Runs answer position ⊎ IsRefused answer position
  pub apart : (position : ℕ) → Runs answer position → ¬ IsRefused answer position
  pub once : IsDistinct nat_eq (map (λ chosen. chosen.position) answer.order)
  pub ascending : AllPairs (λ one other. one.position < other.position) answer.refused

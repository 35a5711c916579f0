-- How a batch is parted into the transactions that run and those that do not.
use Rattle.std.specs.Prelude.{◌≡◌, ◌≢◌, ℕ, ◌+◌, ◌<◌, ◌≤◌, List, [], length, map, nat_eq, All, AllPairs}
use Rattle.std.specs.List.{IsDistinct, slice_index_or}
use Rattle.sol_base.specs.Keys.{same_hash}
use Rattle.message_codec.specs.declared.parsed.Parsed.TheVariants.{Good}
use Rattle.message_codec.specs.Parsing.{parsed_of}
use Rattle.message_codec.specs.Wire.{max_wire_len}
use Rattle.admission.specs.declared.chosen.Chosen.{Chosen}
use Rattle.admission.specs.declared.chosen.Admitted.{Admitted}

-- the wire at a position of a batch
abbrev pub wire_in : List (List ℕ) → ℕ → List ℕ
wire_in wires position = slice_index_or wires position []

-- it is what the wire at its position spells
pub record IsOf (wires : List (List ℕ)) (chosen : Chosen) : Type 0 where
  pub below : chosen.position < length wires
  pub read : parsed_of (wire_in wires chosen.position) ≡ Good chosen.tx chosen.name
  pub short : length (wire_in wires chosen.position) ≤ max_wire_len

-- each that runs is of its wire, and no two of them have one name or one position; the refused
-- positions ascend, and none of them runs; together they are as many as the wires, so that each
-- position runs or is refused
pub record IsParted (wires : List (List ℕ)) (answer : Admitted) : Type 0 where
  pub each : All (IsOf wires) answer.order
  pub apart : IsDistinct same_hash (map (λ chosen. chosen.name) answer.order)
  pub once : IsDistinct nat_eq (map (λ chosen. chosen.position) answer.order)
  pub below : All (λ refused. refused.position < length wires) answer.refused
  pub ascending : AllPairs (λ one other. one.position < other.position) answer.refused
  pub others : All (λ refused. All (λ chosen. chosen.position ≢ refused.position) answer.order)
      answer.refused
  pub count : length answer.order + length answer.refused ≡ length wires

-- The line of a batch: its order.
use Rattle.std.specs.Prelude.{◌≡◌, ◌<◌, ◌≤◌, List, AllPairs}
use Rattle.std.specs.List.Sorted.{IsPermutation}
use Rattle.admission.specs.declared.chosen.Chosen.{Chosen}
use Rattle.admission.specs.Admission.{priority}

-- one has the higher priority, or the same and the lower position
pub record StandsBefore (one other : Chosen) : Type 0 where
  pub higher : priority other ≤ priority one
  pub earlier : priority one ≡ priority other → one.position < other.position

-- the line has all that stand and no other, by priority and then by position
pub record IsLineOf (standing line : List Chosen) : Type 0 where
  pub same : IsPermutation standing line
  pub ranked : AllPairs StandsBefore line

-- How parallel a block can be (the project's own).
use Rattle.std.specs.Prelude.{◌≡◌, ℕ, ◌*◌, ◌/◌, ◌==◌, ◌<◌, ◌≤◌, ◌↔◌, None, List, length, slice_index_or, if◌then◌else◌}
use Rattle.admission.specs.declared.chosen.Chosen.{Chosen}
use Rattle.admission.specs.Admission.{units_of}
use Rattle.block_shape.specs.declared.measure.Measure.{Measure}
use Rattle.block_shape.specs.declared.measure.Measure.TheVariants.{Units, Transactions}
use Rattle.block_shape.specs.declared.figure.Shape.{Shape}
use Rattle.block_shape.specs.Starts.{StartEarliest, AllEndBy}
use Rattle.block_shape.specs.Holders.{HolderIs}

-- what the longest chain counts: where all start as early as they may, they have ended by it, and by
-- no time before it
pub record IsLongest (measure : Measure) (order : List Chosen) (longest : ℕ) : Type 0 where
  pub starts : List ℕ
  pub earliest : StartEarliest measure order starts
  pub ends : (time : ℕ) → (longest ≤ time) ↔ AllEndBy measure order starts (length order) time

pub record IsShape (order : List Chosen) (shape : Shape) : Type 0 where
  pub starts : length shape.starts.items ≡ length order
  pub earliest : StartEarliest Units order shape.starts.items
  pub holders : length shape.holders.items ≡ length order
  pub held : (i : ℕ) → i < length order →
      HolderIs Units order shape.starts.items i (slice_index_or shape.holders.items i None)
  pub longest : IsLongest Units order shape.longest
  pub depth : IsLongest Transactions order shape.depth
  pub units : shape.units ≡ units_of order

-- all units over those of the longest chain, in hundredths
abbrev pub hundredths : ℕ → ℕ → ℕ
hundredths units longest = if longest == 0 then 0 else units * 100 / longest

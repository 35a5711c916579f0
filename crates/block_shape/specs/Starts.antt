-- When the transactions of a block may start at the earliest (the project's own).
use Rattle.std.specs.Prelude.{◌≡◌, ℕ, ◌+◌, ◌<◌, ◌≤◌, ◌↔◌, true, List, [], map, length, slice_index, slice_index_or}
use Rattle.sol_base.specs.declared.lock.Lock.{Lock}
use Rattle.bank_law.specs.Machine.{clash}
use Rattle.admission.specs.declared.chosen.Chosen.{Chosen}
use Rattle.block_shape.specs.declared.measure.Measure.{Measure}
use Rattle.block_shape.specs.declared.measure.Measure.TheVariants.{Units, Transactions}

-- what a transaction counts on a chain: the units that it asks for, or one
abbrev pub length_by : Measure → Chosen → ℕ
length_by Units chosen = chosen.budget.limit
length_by Transactions chosen = 1

abbrev pub length_at : Measure → List Chosen → ℕ → ℕ
length_at measure order i = slice_index (map (length_by measure) order) i

-- the locks of a position
abbrev pub locks_at : List Chosen → ℕ → List Lock
locks_at order i = slice_index_or (map (λ chosen. chosen.locks) order) i []

-- when a position ends that starts at its time among these
abbrev pub end_at : Measure → List Chosen → List ℕ → ℕ → ℕ
end_at measure order starts i = slice_index starts i + length_at measure order i

-- each earlier position that conflicts with position i has ended by the time
abbrev pub HaveEnded : Measure → List Chosen → List ℕ → ℕ → ℕ → Type 0
HaveEnded measure order starts i time =
    (j : ℕ) → j < i → clash (locks_at order j) (locks_at order i) ≡ true →
    end_at measure order starts j ≤ time

-- Each position starts at the first time by which all earlier ones that conflict with it have ended:
-- that is so at the times from its start on, and at no others.
abbrev pub StartEarliest : Measure → List Chosen → List ℕ → Type 0
StartEarliest measure order starts =
    (i : ℕ) → i < length order →
    (time : ℕ) → (slice_index starts i ≤ time) ↔ HaveEnded measure order starts i time

-- the first i positions have all ended by the time
abbrev pub AllEndBy : Measure → List Chosen → List ℕ → ℕ → ℕ → Type 0
AllEndBy measure order starts i time =
    (j : ℕ) → j < i → end_at measure order starts j ≤ time

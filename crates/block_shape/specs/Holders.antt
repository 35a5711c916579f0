-- Which earlier transaction holds up each one the longest (the project's own).
use Rattle.std.specs.Prelude.{◌≡◌, ℕ, ◌-◌, ◌<◌, ◌≤◌, ◌==◌, Bool, true, nat_le, if◌then◌else◌, max, List, Option, Some, None, MatchOption, unwrap_or, slice_index}
use Rattle.std.specs.BTreeMap.{BTreeMap, get}
use Rattle.sol_base.specs.declared.key.Key.{Key}
use Rattle.sol_base.specs.declared.lock.Lock.{Lock}
use Rattle.sol_base.specs.Keys.{key_cmp}
use Rattle.bank_law.specs.Machine.{clash}
use Rattle.admission.specs.declared.chosen.Chosen.{Chosen}
use Rattle.block_shape.specs.declared.measure.Measure.{Measure}
use Rattle.block_shape.specs.declared.reach.Reach.{Reach}
use Rattle.block_shape.specs.Starts.{end_at, locks_at}

-- position h is before position i, conflicts with it, and ends as it starts
pub record HoldsUp (measure : Measure) (order : List Chosen) (starts : List ℕ) (h i : ℕ) : Type 0 where
  pub earlier : h < i
  pub conflicts : clash (locks_at order h) (locks_at order i) ≡ true
  pub ends : end_at measure order starts h ≡ slice_index starts i

-- it holds it up, and none behind it does
pub record IsHolder (measure : Measure) (order : List Chosen) (starts : List ℕ) (i h : ℕ) : Type 0 where
  pub holds : HoldsUp measure order starts h i
  pub last : (j : ℕ) → HoldsUp measure order starts j i → j ≤ h

-- the last that holds position i up, or none where none does
abbrev pub HolderIs : Measure → List Chosen → List ℕ → ℕ → Option ℕ → Type 0
HolderIs measure order starts i holder =
    MatchOption holder ((j : ℕ) → HoldsUp measure order starts j i → ⊥) (IsHolder measure order starts i)

-- ---- what is kept for each key

abbrev pub reach_of : BTreeMap Key Reach → Key → Reach
reach_of reaches key = unwrap_or (get key_cmp reaches key) (record { end = 0; place = 0 })

-- the later end, and of equal ones that of the later place
abbrev pub later : Reach → ℕ → ℕ → Reach
later before end place =
    if nat_le before.end end then record { end = end; place = place } else before

abbrev pub reached : Bool → ℕ → ℕ → Reach → Reach
reached notes end place before = if notes then later before end place else before

-- the place where the end is this time
abbrev pub place_at : Reach → ℕ → ℕ
place_at reach time = if reach.end == time then reach.place else 0

-- the place of the last that holds up a lock
abbrev pub held_place : BTreeMap Key Reach → BTreeMap Key Reach → ℕ → Lock → ℕ
held_place written read time lock =
    if lock.write
    then max (place_at (reach_of written lock.key) time) (place_at (reach_of read lock.key) time)
    else place_at (reach_of written lock.key) time

-- places count from 1, and 0 is none
abbrev pub holder_of : ℕ → Option ℕ
holder_of place = if place == 0 then None else Some (place - 1)

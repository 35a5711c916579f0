-- What a lane has passed its gate before. A gate is what holds of the lane and the position once that
-- is so.
use Rattle.std.specs.Prelude.{◌≡◌, ℕ, List, [], ◌∷◌, ◌++◌, All, None, Some}
use Rattle.std.specs.List.{last_or}
use Rattle.bank_law.specs.declared.event.Event.{Event}
use Rattle.bank_law.specs.declared.event.EventKind.{EventKind}
use Rattle.bank_law.specs.declared.event.EventKind.TheVariants.{Grant, Commit, Return}
use Rattle.bank_lanes.specs.declared.gate.Passes.{Passes}

-- the positions before which the lane has passed its gate, in their order
abbrev pub passed : Passes → List ℕ
passed passes = passes.positions.value

-- the record of this lane, which has passed nothing yet
pub record HasNoPasses (lane : ℕ) (passes : Passes) : Type 0 where
  pub lane_is : passes.lane ≡ lane
  pub none : passed passes ≡ []

-- the lane has passed this gate once more, before this position
pub record HasPassedOnce (gate : ℕ → ℕ → Type 0) (old : Passes) (position : ℕ) (new : Passes)
    : Type 0 where
  pub lane : new.lane ≡ old.lane
  pub positions : passed new ≡ passed old ++ position ∷ []
  pub its : gate old.lane position

-- the position before which the lane has passed its gate last
abbrev pub HasJustPassed : ℕ → Passes → Type 0
HasJustPassed position passes = last_or None (passed passes) ≡ Some position

-- the position that an event grants, if it grants any
abbrev pub granted_by : EventKind → ℕ → List ℕ
granted_by Grant position = position ∷ []
granted_by Commit position = []
granted_by Return position = []

-- the positions that were granted, in their order
abbrev pub granted : List Event → List ℕ
granted [] = []
granted (event ∷ events) = granted_by event.kind event.position ++ granted events

-- the record of this lane, which has passed this gate before each of the positions that were granted,
-- in their order, and before no other
pub record HasPassedGranted (gate : ℕ → ℕ → Type 0) (lane : ℕ) (events : List Event)
    (passes : Passes) : Type 0 where
  pub lane_is : passes.lane ≡ lane
  pub all : passed passes ≡ granted events
  pub its : All (gate lane) (granted events)

-- what an event commits, its lane has passed this gate before
abbrev pub IsBehind : (ℕ → ℕ → Type 0) → Event → Type 0
IsBehind gate event = event.kind ≡ Commit → gate event.lane event.position

-- what each of these events commits, its lane has passed this gate before
abbrev pub AreBehind : (ℕ → ℕ → Type 0) → List Event → Type 0
AreBehind gate events = All (IsBehind gate) events

-- The events of some lanes.
use Rattle.std.specs.Prelude.{◌≡◌, ℕ, ◌==◌, Bool, true, false, List, filter}
use Rattle.std.specs.List.{list_any}
use Rattle.bank_law.specs.declared.event.Event.{Event}
use Rattle.bank_law.specs.History.{own}

-- whether a lane is one of these
abbrev pub is_one_of : List ℕ → ℕ → Bool
is_one_of lanes lane = list_any (λ k. k == lane) lanes

-- what these lanes did, in the order of the history
abbrev pub own_of : List Event → List ℕ → List Event
own_of events lanes = filter (λ event. is_one_of lanes event.lane) events

-- no lane is one of both
abbrev pub AreApart : List ℕ → List ℕ → Type 0
AreApart some others = (lane : ℕ) → is_one_of some lane ≡ true → is_one_of others lane ≡ false

-- where nothing is added to what the whole of some lanes did, nothing is to what a part of them
-- did, as the lanes of one pass that was joined
abbrev pub EachPartKeeps : Type 0
EachPartKeeps =
    (part whole : List ℕ) (old new : List Event)
    → ((lane : ℕ) → is_one_of part lane ≡ true → is_one_of whole lane ≡ true)
    → own_of new whole ≡ own_of old whole → own_of new part ≡ own_of old part

-- nor to what one of them did
abbrev pub EachLaneKeeps : Type 0
EachLaneKeeps =
    (lane : ℕ) (whole : List ℕ) (old new : List Event) → is_one_of whole lane ≡ true
    → own_of new whole ≡ own_of old whole → own new lane ≡ own old lane

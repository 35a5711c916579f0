-- The history of a core: its list of events, and what one lane and one pass know of it (the
-- project's own).
use Rattle.std.specs.Prelude.{ℕ, ◌==◌, Bool, true, false, List, filter, count_by, Option, Some, None, option_and_then}
use Rattle.std.specs.List.{last_or}
use Rattle.bank_law.specs.declared.event.Event.{Event}
use Rattle.bank_law.specs.declared.event.EventKind.{EventKind}
use Rattle.bank_law.specs.declared.event.EventKind.TheVariants.{Grant, Commit, Return}

-- the events of a lane
abbrev pub own : List Event → ℕ → List Event
own events lane = filter (λ event. event.lane == lane) events

-- the position that is held after such an event
abbrev pub held_after : EventKind → ℕ → Option ℕ
held_after Grant position = Some position
held_after Commit position = None
held_after Return position = None

-- what a lane holds by its own events: the position of the last one where it is a grant, else none
abbrev pub holds : List Event → Option ℕ
holds mine = option_and_then (λ event. held_after event.kind event.position) (last_or None mine)

abbrev pub is_return : EventKind → Bool
is_return Grant = false
is_return Commit = false
is_return Return = true

-- how many events are returns
abbrev pub returns : List Event → ℕ
returns events = count_by (λ event. is_return event.kind) events

-- What a pass to a desk knows, beside which desk it is of: its lane, a beginning of the history,
-- its
-- lane's events, how many lanes it knows to be drawn, and how often it has had the turn.
pub record PassView : Type 0 where
  pub lane : ℕ
  pub seen : List Event
  pub mine : List Event
  pub drawn : ℕ
  pub turns : ℕ

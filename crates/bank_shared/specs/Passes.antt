-- What a call on the desk does to its pass.
use Rattle.std.specs.Prelude.{◌≡◌, ℕ, suc, ◌+◌, ◌≤◌, max, List, [], ◌∷◌, ◌++◌}
use mathlib.Core.List.{IsPrefix}
use Rattle.bank_law.specs.declared.event.Event.{Event}
use Rattle.bank_shared.specs.declared.view.View.{View}
use Rattle.bank_shared.specs.History.{own, own_of, AreApart}

module _ {O : Type 0} where
  -- what is seen afterwards is the history up to and with these events of the lane, before which no
  -- lane of the pass had more than was seen
  pub record Adds (v : View O) (l : ℕ) (es : List Event) (w : View O) : Type 0 where
    pub before : List Event
    pub seen : w.seen ≡ before ++ es
    pub longer : IsPrefix v.seen before
    pub mine : own w.seen l ≡ own v.seen l ++ es
    pub all : own_of w.seen v.lanes ≡ own_of v.seen v.lanes ++ es
    pub lanes : w.lanes ≡ v.lanes
    pub turn : w.turns ≡ suc v.turns

  -- what is seen afterwards is the history at the step
  pub record Sees (v : View O) (l : ℕ) (w : View O) : Type 0 where
    pub longer : IsPrefix v.seen w.seen
    pub mine : own w.seen l ≡ own v.seen l
    pub all : own_of w.seen v.lanes ≡ own_of v.seen v.lanes
    pub lanes : w.lanes ≡ v.lanes
    pub turn : w.turns ≡ suc v.turns

  -- what a pass always keeps
  pub record Keeps (v w : View O) : Type 0 where
    pub origin : w.origin ≡ v.origin
    pub longer : IsPrefix v.seen w.seen
    pub drawn : v.drawn ≤ w.drawn

  -- a new pass of a lane, split from v
  pub record Begins (v : View O) (l : ℕ) (w : View O) : Type 0 where
    pub above : v.drawn ≤ l
    pub lanes : w.lanes ≡ l ∷ []
    pub mine : own w.seen l ≡ []
    pub drawn : w.drawn ≡ l + 1
    pub longer : IsPrefix v.seen w.seen
    pub turns : w.turns ≡ 1

  -- more may be seen, but no event of its lanes, and all else stays
  pub record OnlySees (v : View O) (l : ℕ) (w : View O) : Type 0 where
    pub keeps : Keeps v w
    pub mine : own w.seen l ≡ own v.seen l
    pub all : own_of w.seen v.lanes ≡ own_of v.seen v.lanes
    pub turns : w.turns ≡ v.turns

  -- what another one knew is known, and its lanes have no further event
  pub record Learns (v other w : View O) : Type 0 where
    pub seen : IsPrefix other.seen w.seen
    pub lanes : w.lanes ≡ other.lanes ++ v.lanes
    pub apart : AreApart other.lanes v.lanes
    pub all : own_of w.seen other.lanes ≡ own_of other.seen other.lanes
    pub drawn : w.drawn ≡ max v.drawn other.drawn

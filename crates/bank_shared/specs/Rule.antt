-- The rule of the desk: one word, one slot, and what each seat knows.
use Rattle.std.specs.Prelude.{◌≡◌, ℕ, ◌+◌, ◌*◌, ◌<◌, ◌≤◌, max, List, [], ◌∷◌, ◌++◌, length, ◌==◌, cond, flat_map, All, Option, Some, None, IfSome}
use mathlib.Core.Option.{some, none}
use lib.ListN.{get_elem?}
use Rattle.atomic_table.specs.Table.{State}
use Rattle.spec_base.specs.Sums.{total}
use Rattle.bank_law.specs.declared.event.Event.{Event}
use Rattle.bank_shared.specs.declared.view.View.{View}
use Rattle.bank_shared.specs.declared.view.Part.{Part}
use Rattle.bank_shared.specs.History.{Covers}

-- how often a lane stands among these
abbrev pub times : ℕ → List ℕ → ℕ
times l lanes = total (λ k. cond (k == l) 1 0) lanes

-- the lanes of parts
abbrev pub part_lanes : List Part → List ℕ
part_lanes parts = flat_map (λ part. part.lanes) parts

module _ {O : Type 0} where
  -- the lanes of a view, and of the passes that were joined into it since it looked
  abbrev pub lanes_of : View O → List ℕ
  lanes_of v = part_lanes v.joined ++ v.lanes

  -- how often a lane stands in a view
  abbrev pub stands : ℕ → View O → ℕ
  stands l v = times l (lanes_of v)

  abbrev pub first_view : O → View O
  first_view o =
      record {
        origin = Some o;
        lanes = 0 ∷ [];
        seen = [];
        joined = [];
        drawn = 1;
        turns = 0;
        turn = None;
      }

  -- a seat that was joined into another
  abbrev pub spent_view : View O
  spent_view =
      record {
        origin = None;
        lanes = [];
        seen = [];
        joined = [];
        drawn = 0;
        turns = 0;
        turn = None;
      }

  -- a seat without a lane
  abbrev pub new_view : View O → View O
  new_view v =
      record {
        origin = v.origin;
        lanes = [];
        seen = v.seen;
        joined = [];
        drawn = v.drawn;
        turns = 0;
        turn = None;
      }

  abbrev pub joined_view : View O → View O → View O
  joined_view v w =
      record {
        origin = v.origin;
        lanes = v.lanes;
        seen = v.seen;
        joined = record { lanes = w.lanes; seen = w.seen } ∷ w.joined ++ v.joined;
        drawn =
            max v.drawn w.drawn;
        turns = v.turns;
        turn = v.turn;
      }

  -- what a view knows of a history with d lanes drawn
  pub record Knows (o : O) (h : List Event) (d : ℕ) (v : View O) : Type 0 where
    pub desk : IfSome v.origin (λ p. p ≡ o)
    pub mine : Covers h v.lanes v.seen
    pub joined : All (λ part. Covers h part.lanes part.seen) v.joined
    pub drawn : v.drawn ≤ d

  module _ {C : Type 0} (origin : C → O) (journal : C → List Event) (drawn : C → ℕ) where
    -- a core at home, or none while a seat has the turn
    abbrev pub Placed : Option ℕ → O → List Event → ℕ → List ℕ
        → List (mathlib.Core.Option.Option (Option C)) → Type 0
    Placed None o h d ws hs =
        (c : C) × (origin c ≡ o) × (journal c ≡ h) × (drawn c ≡ d) × (ws ≡ (2 * length h) ∷ [])
        × (hs ≡ some (Some c) ∷ [])
    Placed (Some k) o h d ws hs = (ws ≡ (2 * length h + 1) ∷ []) × (hs ≡ none ∷ [])

    pub record IsRuled (o : O) (s : State (Option C) (View O)) : Type 0 where
      pub history : List Event
      pub count : ℕ
      pub holder : Option ℕ
      pub placed : Placed holder o history count s.words s.homes
      pub turn : (i : ℕ) (v : View O) → get_elem? s.views i ≡ some v
          → IfSome v.turn (λ p. (holder ≡ Some i) × (p ≡ (history, count)))
      pub knows : (i : ℕ) (v : View O) → get_elem? s.views i ≡ some v → Knows o history count v
      pub once : (l : ℕ) → l < count → total (stands l) s.views ≡ 1
      pub never : (l : ℕ) → count ≤ l → total (stands l) s.views ≡ 0
      pub later : All (λ e. e.lane < count) history

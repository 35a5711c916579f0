-- What each step tells its seat.
use Rattle.std.specs.Prelude.{◌≡◌, ℕ, ◌-◌, ◌*◌, ◌<◌, ◌≤◌, suc, List, [], ◌∷◌, ◌++◌, length, ◌==◌, All, Option, Some, None, MatchBool}
use Rattle.std.specs.List.{range_with_len}
use Rattle.atomic_table.specs.Table.{Me, Step}
use Rattle.bank_law.specs.declared.event.Event.{Event}
use Rattle.bank_shared.specs.declared.view.View.{View}
use Rattle.bank_shared.specs.History.{Covers, GoesOn}
use Rattle.bank_shared.specs.Rule.{Knows, lanes_of, stands}

-- the lanes that were drawn under the turn, once d are drawn
abbrev pub drawn_since : Option (List Event × ℕ) → ℕ → List ℕ
drawn_since None d = []
drawn_since (Some p) d = range_with_len p.1 (d - p.1)

module _ {O : Type 0} where
  -- a seat that has the turn
  abbrev pub holding : View O → List Event → ℕ → View O
  holding v h d =
      record {
        origin = v.origin;
        lanes = v.lanes;
        seen = v.seen;
        joined = v.joined;
        drawn = v.drawn;
        turns = suc v.turns;
        turn = Some (h, d);
      }

  -- a seat that has given it up, with the lanes that were drawn under it
  abbrev pub done : View O → List Event → ℕ → View O
  done v h d =
      record {
        origin = v.origin;
        lanes = drawn_since v.turn d ++ lanes_of v;
        seen = h;
        joined = [];
        drawn = d;
        turns = v.turns;
        turn = None;
      }

  -- a seat that has looked
  abbrev pub caught_up : View O → List Event → View O
  caught_up v h =
      record {
        origin = v.origin;
        lanes = lanes_of v;
        seen = h;
        joined = [];
        drawn = v.drawn;
        turns = v.turns;
        turn = v.turn;
      }

  abbrev pub looked : {S : Type 0} → Step S → Me S (View O) → ℕ → Me S (View O) → Type 0
  looked s m n m' =
      (h : List Event) × (m' ≡ (caught_up m.0 h, m.1)) × Covers h m.0.lanes m.0.seen
      × All (λ part. Covers h part.lanes part.seen) m.0.joined × ((l : ℕ) → stands l m.0 ≤ 1)

  -- a seat that has the turn, after which the history goes on by events of its lanes alone, and no
  -- fewer lanes are drawn
  pub record HasTurn (v : View O) (after : List Event) (d : ℕ) : Type 0 where
    pub came : List Event × ℕ
    pub turn : v.turn ≡ Some came
    pub events : GoesOn (lanes_of v) came.0 after
    pub drawn : came.1 ≤ d

  -- what stands in the slot when the turn is taken
  pub record Gets (o p : O) (h : List Event) (d : ℕ) (v : View O) : Type 0 where
    pub desk : p ≡ o
    pub knows : Knows o h d v
    pub later : All (λ e. e.lane < d) h
    pub below : (l : ℕ) → d ≤ l → stands l v ≡ 0

  module _ {C : Type 0} (origin : C → O) (journal : C → List Event) (drawn : C → ℕ) where
    -- what is taken with the turn
    abbrev pub Taken : View O → C → ℕ → Me (Option C) (View O) → Type 0
    Taken v c n m' =
        (m' ≡ (holding v (journal c) (drawn c), (0, Some c) ∷ [])) × (n ≡ 2 * length (journal c))
        × Knows (origin c) (journal c) (drawn c) v × All (λ e. e.lane < drawn c) (journal c)
        × ((l : ℕ) → drawn c ≤ l → stands l v ≡ 0)

    abbrev pub took : Step (Option C) → Me (Option C) (View O) → ℕ → Me (Option C) (View O) → Type 0
    took s m n m' = MatchBool (n == s.first) ((c : C) × Taken m.0 c n m') (m' ≡ m)

  module _ {C : Type 0} (journal : C → List Event) (drawn : C → ℕ) where
    abbrev pub released : Step (Option C) → Me (Option C) (View O) → ℕ → Me (Option C) (View O)
        → Type 0
    released s m n m' =
        (c : C) → (m.1 ≡ (0, Some c) ∷ []) → m' ≡ (done m.0 (journal c) (drawn c), [])

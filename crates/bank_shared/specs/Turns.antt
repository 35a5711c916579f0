-- What a seat that has the turn may have made of the history.
use Rattle.std.specs.Prelude.{◌≡◌, ℕ, List, [], ◌++◌, drop, length, Option, Some, None}
use Rattle.std.specs.List.{AllPass}
use Rattle.std.proofs.Props.{props}
use Rattle.bank_law.specs.declared.event.Event.{Event}
use Rattle.bank_shared.specs.declared.view.View.{View}
use Rattle.bank_shared.specs.History.{is_one_of}

-- the history as it was when the turn was taken
abbrev pub history_at : Option (List Event × ℕ) → List Event
history_at None = []
history_at (Some p) = p.0

module _ {O : Type 0} where
  -- the seat has the turn, no lane was drawn under it, and the history went on by events of the
  -- seat's lanes alone
  pub record IsOnTurn (v : View O) (after : List Event) (d : ℕ) : Type 0 where
    pub turn : v.turn ≡ Some (history_at v.turn, d)
    pub after_is : after ≡ history_at v.turn ++ drop (length (history_at v.turn)) after
    pub theirs : AllPass (λ event. is_one_of v.lanes event.lane)
        (drop (length (history_at v.turn)) after)

  pub IsOnTurn-prop : (v : View O) (after : List Event) (d : ℕ) → IsProp (IsOnTurn v after d)
  IsOnTurn-prop v after d = hlevel props

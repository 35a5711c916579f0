-- Tickets of one sender.
use Rattle.std.specs.Prelude.{◌≡◌, ℕ, suc, ◌==◌, List, [], ◌∷◌, filter}
use Rattle.intake.specs.declared.ticket.Ticket.{Ticket}

-- the tickets of sender s
abbrev pub of : List Ticket → ℕ → List Ticket
of tickets s = filter (λ t. t.sender == s) tickets

-- their places are `first` and the numbers after it
abbrev pub ArePlacedFrom : ℕ → List Ticket → Type 0
ArePlacedFrom first [] = Unit {0}
ArePlacedFrom first (t ∷ ts) = (t.place ≡ first) × ArePlacedFrom (suc first) ts

-- Where the tickets of the positions lie in a list.
use Rattle.std.specs.Prelude.{◌≡◌, ℕ, ◌<◌, List, length}
use Rattle.std.specs.List.{slice_index_or}
use Rattle.intake.specs.declared.ticket.Ticket.{Ticket}
use Rattle.intake.specs.Gathering.{carried, parsed_at}

-- the place of a position
abbrev pub place_of : List ℕ → ℕ → ℕ
place_of places p = slice_index_or places p 0

-- at the place of this position lies a ticket of it
abbrev pub LeadsTo : List ℕ → List Ticket → ℕ → Type 0
LeadsTo places tickets p =
    (place_of places p < length tickets)
    × ((d : Ticket) → (slice_index_or tickets (place_of places p) d).position ≡ p)

-- and the ticket carries what the wire of the position is
abbrev pub LeadsToParsed : List (List ℕ) → List ℕ → List Ticket → ℕ → Type 0
LeadsToParsed wires places tickets p =
    (place_of places p < length tickets)
    × ((d : Ticket) → carried (slice_index_or tickets (place_of places p) d) ≡ parsed_at wires p)

use Rattle.std.proofs.Common.{◌≡◌, ℕ, ◌<◌, length, get_or}
use Rattle.intake.specs.declared.ticket.Ticket.{Ticket}
use Rattle.intake.specs.Layout.{LeadsTo}
use Rattle.intake.proofs.gathering.places_of.Given as goal

-- the tickets so far are found by their positions
abbrev pub invariant-loop-place : goal.invariant-loop-place
invariant-loop-place l = record {
  count : length l.places.items ≡ length l.wires;
  places : (k : ℕ) (d : Ticket) → k < l.place → LeadsTo l.places.items l.tickets (get_or l.tickets k d).position;
}

-- What senders gather of the wires.
use Rattle.std.specs.Prelude.{◌≡◌, ℕ, ◌+◌, ◌%◌, ◌<◌, ◌==◌, List, [], ◌∷◌, length, map, filter, if◌then◌else◌, Result, IfOk}
use Rattle.std.specs.List.{range_with_len, slice_index_or}
use Rattle.sol_base.specs.declared.memory.OutOfMemory.{OutOfMemory}
use Rattle.message_codec.specs.declared.parsed.Parsed.{Parsed}
use Rattle.message_codec.specs.Parsing.{parsed_of}
use Rattle.intake.specs.declared.gathering.Arrival.{Arrival}
use Rattle.intake.specs.declared.ring.Intake.{Intake}
use Rattle.intake.specs.declared.seats.SendSeat.{SendSeat}
use Rattle.intake.specs.declared.ticket.Ticket.{Ticket}
use Rattle.intake.specs.Seats.{IsSendSeatOf, sender_of, sent_by}
use Rattle.intake.specs.Tickets.{of}

-- the positions below `count` that sender s parses, among so many senders, ascending
abbrev pub share_of : ℕ → ℕ → ℕ → List ℕ
share_of count senders s = filter (λ p. (p % senders) == s) (range_with_len 0 count)

-- a position, and what its wire is
abbrev pub parsed_at : List (List ℕ) → ℕ → ℕ × Parsed
parsed_at wires p = (p, parsed_of (slice_index_or wires p []))

-- what a ticket carries
abbrev pub carried : Ticket → ℕ × Parsed
carried ticket = (ticket.position, ticket.parsed)

-- the seat has sent the share of its sender
abbrev pub HasSentShare : Intake → List (List ℕ) → ℕ → ℕ → SendSeat → Type 0
HasSentShare intake wires senders s seat =
    IsSendSeatOf intake seat × (sender_of seat ≡ s)
    × (map carried (sent_by seat) ≡ map (parsed_at wires) (share_of (length wires) senders s))

-- each of these seats came back with its sender's share sent, or for lack of memory not at all
abbrev pub HaveSentShares : Intake → List (List ℕ) → ℕ → List SendSeat
    → List (Result SendSeat OutOfMemory) → Type 0
HaveSentShares intake wires senders seats sent =
    (i : ℕ) (d : SendSeat) (r : Result SendSeat OutOfMemory) → i < length seats
    → IfOk (slice_index_or sent i r)
    (HasSentShare intake wires senders (sender_of (slice_index_or seats i d)))

-- these are the tickets of all senders
abbrev pub CarriesShares : List (List ℕ) → ℕ → List Ticket → Type 0
CarriesShares wires senders tickets =
    (s : ℕ) → map carried (of tickets s) ≡ map (parsed_at wires) (share_of (length wires) senders s)

abbrev pub arrival_of : Ticket → Arrival
arrival_of ticket = record { sender = ticket.sender; position = ticket.position }

abbrev pub positions : List Arrival → List ℕ
positions arrivals = map (λ a. a.position) arrivals

-- the positions that arrived of sender s, in the order of arrival
abbrev pub arrived_of : List Arrival → ℕ → List ℕ
arrived_of arrivals s = positions (filter (λ a. a.sender == s) arrivals)

-- how often a number stands in a list
abbrev pub times : ℕ → List ℕ → ℕ
times p [] = 0
times p (x ∷ xs) = (if x == p then 1 else 0) + times p xs

-- each position below `count` arrived once
abbrev pub EachArrivesOnce : ℕ → List Arrival → Type 0
EachArrivesOnce count arrivals = (p : ℕ) → p < count → times p (positions arrivals) ≡ 1

-- of each sender its share arrived, ascending
abbrev pub ArriveByShares : ℕ → ℕ → List Arrival → Type 0
ArriveByShares count senders arrivals = (s : ℕ) → arrived_of arrivals s ≡ share_of count senders s

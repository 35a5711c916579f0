-- What a seat is seen as: its intake, its sender, and the tickets that it sent or took.
use Rattle.std.specs.Prelude.{◌≡◌, ◌≤◌, ℕ, List, [], ◌∷◌, ◌++◌, All, length, map}
use Rattle.crossbeam_queue.specs.Fifo.{Held}
use Rattle.crossbeam_queue.specs.Passes.{view, IsPassOf, ruled_capacity}
use Rattle.message_codec.specs.declared.parsed.Parsed.{Parsed}
use Rattle.intake.specs.declared.ring.Intake.{Intake}
use Rattle.intake.specs.declared.rule.PassView.{PassView}
use Rattle.intake.specs.declared.seats.SendSeat.{SendSeat}
use Rattle.intake.specs.declared.seats.TakeSeat.{TakeSeat}
use Rattle.intake.specs.declared.ticket.Ticket.{Ticket}
use Rattle.intake.specs.Rule.{Stands}
use Rattle.intake.specs.Tickets.{of}

-- how many tickets the ring can hold
abbrev pub capacity_of : Intake → ℕ
capacity_of intake = ruled_capacity intake.ring

-- the seat was made with this intake
abbrev pub IsSendSeatOf : Intake → SendSeat → Type 0
IsSendSeatOf intake seat = IsPassOf intake.ring seat.pass

abbrev pub sender_of : SendSeat → ℕ
sender_of seat = seat.sender

abbrev pub sent_by : SendSeat → List Ticket
sent_by seat = (view seat.pass).sent

-- the ticket that the seat sends next
abbrev pub next_ticket : SendSeat → ℕ → Parsed → Ticket
next_ticket seat position parsed =
    record {
      sender = sender_of seat;
      place = length (sent_by seat);
      position = position;
      parsed = parsed;
    }

-- the ticket was sent after all others of the seat
abbrev pub HasSent : SendSeat → Ticket → SendSeat → Type 0
HasSent old ticket new = sent_by new ≡ sent_by old ++ ticket ∷ []

-- the taker's seat was made with this intake
abbrev pub IsTakeSeatOf : Intake → TakeSeat → Type 0
IsTakeSeatOf intake taker = IsPassOf intake.ring taker.pass

abbrev pub taken_by : TakeSeat → List Ticket
taken_by taker = (view taker.pass).taken

-- how many senders its intake has
abbrev pub senders_of : TakeSeat → ℕ
senders_of taker = (view taker.pass).made

-- the ring was full in some state that its rule allows, at a call by this seat
abbrev pub WasFull : Intake → SendSeat → Type 0
WasFull intake seat = Held (capacity_of intake) (Stands (view seat.pass))

-- the ring was empty in some state that its rule allows, at a call by this seat
abbrev pub WasEmpty : Intake → TakeSeat → Type 0
WasEmpty intake taker = Held 0 (Stands (view taker.pass))

-- the seat was made with this intake, and sent nothing yet
abbrev pub IsFresh : Intake → SendSeat → Type 0
IsFresh intake seat = IsSendSeatOf intake seat × (sent_by seat ≡ [])

abbrev pub AreFresh : Intake → List SendSeat → Type 0
AreFresh intake seats = All (IsFresh intake) seats

-- the tickets of each seat's sender are what it sent
abbrev pub AreSentBy : List SendSeat → List Ticket → Type 0
AreSentBy seats tickets = All (λ s. of tickets (sender_of s) ≡ sent_by s) seats

-- there are no tickets of other than the first senders
abbrev pub AreOfTheFirst : ℕ → List Ticket → Type 0
AreOfTheFirst senders tickets = (s : ℕ) → senders ≤ s → of tickets s ≡ []

-- a sender with all that its seat sent
abbrev pub sender_and_sent : SendSeat → ℕ × List Ticket
sender_and_sent seat = (sender_of seat, sent_by seat)

-- the taker's pass, with those of these seats joined to it
abbrev pub with_all_joined : PassView → List SendSeat → PassView
with_all_joined v seats = record v { joined = map sender_and_sent seats }

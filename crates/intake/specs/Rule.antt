-- The rule of the ring, and what its passes know.
-- The kinds of step are a push, a pop, a push that is refused, a pop that is refused, and the
-- splitting and joining of passes.
use Rattle.std.specs.Prelude.{◌≡◌, ℕ, suc, ◌<◌, ◌≤◌, List, [], ◌∷◌, ◌++◌, length, All, true, false, Option, Some, None, IfSome}
use mathlib.Core.Option.{some}
use lib.ListN.{get_elem?}
use Rattle.intake.specs.declared.ticket.Ticket.{Ticket}
use Rattle.intake.specs.declared.rule.PassView.{PassView}
use Rattle.intake.specs.Tickets.{of, ArePlacedFrom}

-- the taker's pass, which has made so many seats
abbrev pub taker_view : ℕ → PassView
taker_view made =
    record { takes = true; made = made; taken = []; joined = []; sender = None; sent = [] }

abbrev pub first_view : PassView
first_view = taker_view 0

-- a pass that was joined
abbrev pub spent_view : PassView
spent_view = record { takes = false; made = 0; taken = []; joined = []; sender = None; sent = [] }

abbrev pub with_seat_made : PassView → PassView
with_seat_made v = record v { made = suc v.made }

-- the pass of the next seat
abbrev pub seated : PassView → PassView
seated v = record spent_view { sender = Some v.made }

-- a sender with all that it sent
abbrev pub sender_with : Option ℕ → List Ticket → List (ℕ × List Ticket)
sender_with None sent = []
sender_with (Some s) sent = (s, sent) ∷ []

abbrev pub with_joined : PassView → PassView → PassView
with_joined v w = record v { joined = sender_with w.sender w.sent ++ v.joined }

abbrev pub with_sent : PassView → Ticket → PassView
with_sent v x = record v { sent = v.sent ++ x ∷ [] }

abbrev pub with_taken : PassView → Ticket → PassView
with_taken v x = record v { taken = v.taken ++ x ∷ [] }

-- the ticket was taken, and its place is the number of tickets of its sender that had been taken
abbrev pub Takes : PassView → Ticket → PassView → Type 0
Takes v x w = (w ≡ with_taken v x) × (x.place ≡ length (of v.taken x.sender))

-- what a pass knows, where `tickets` is all that was taken and then the ring, and `seat` tells for
-- each sender which pass sends for it
pub record Fits (reader made : ℕ) (taken tickets : List Ticket) (seat : ℕ → Option ℕ) (pass : ℕ)
    (v : PassView) : Type 0 where
  pub taker : v.takes ≡ true → (pass ≡ reader) × (v.made ≡ made) × (v.taken ≡ taken)
  pub sends : IfSome v.sender (λ s. (seat s ≡ Some pass) × (of tickets s ≡ v.sent))
  pub joined : All (λ k. (seat k.0 ≡ None) × (k.0 < made) × (of tickets k.0 ≡ k.1)) v.joined

-- each pass knows what was sent for its sender: the tickets of that sender among those taken and
-- then those in the ring, with places 0, 1, 2 and so on
pub record Rule (items : List Ticket) (views : List PassView) : Type 0 where
  pub reader : ℕ
  pub made : ℕ
  pub taken : List Ticket
  pub seat : ℕ → Option ℕ
  pub fits : (pass : ℕ) (v : PassView) → get_elem? views pass ≡ some v
      → Fits reader made taken (taken ++ items) seat pass v
  pub unmade : (s : ℕ) → made ≤ s → (seat s ≡ None) × (of (taken ++ items) s ≡ [])
  pub placed : (s : ℕ) → ArePlacedFrom 0 (of (taken ++ items) s)

-- the ring held these tickets in a state that meets the rule, and in which a pass knew v
abbrev pub Stands : PassView → List Ticket → Type 0
Stands v items =
    (views : List PassView) × (pass : ℕ) × (get_elem? views pass ≡ some v) × Rule items views

-- what was taken and then the ring is, for each sender that was joined, what it sent, and nothing
-- for a sender that has no seat
abbrev pub Balances : PassView → List Ticket → Type 0
Balances v items =
    All (λ k. of (v.taken ++ items) k.0 ≡ k.1) v.joined
    × ((s : ℕ) → v.made ≤ s → of (v.taken ++ items) s ≡ [])

use Rattle.std.proofs.Common.{◌≡◌, ◌++◌, All, map, length}
use Rattle.crossbeam_queue.specs.Passes.{view, IsPassOf}
use Rattle.intake.specs.declared.seats.SendSeat.{SendSeat}
use Rattle.intake.specs.Seats.{sender_and_sent}
use Rattle.intake.proofs.Moves.{alone}
use Rattle.intake.proofs.ring.Intake.joined.Given as goal

-- the senders that are joined so far stand after those that are left
abbrev pub invariant-loop-seat : goal.invariant-loop-seat
invariant-loop-seat l =
    IsPassOf l.self.ring l.pass
    × (alone (view l.pass) ≡ alone (view l.initial.pass))
    × (map sender_and_sent l.initial.seats ≡ map sender_and_sent l.seats ++ (view l.pass).joined)
    × All (λ (s : SendSeat). IsPassOf l.self.ring s.pass) l.seats

abbrev pub decreases-loop-seat : goal.decreases-loop-seat
decreases-loop-seat l = length l.seats

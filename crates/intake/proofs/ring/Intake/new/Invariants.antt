use Rattle.std.proofs.Common.{◌≡◌, All, [], map}
use Rattle.std.specs.List.{range_with_len}
use Rattle.crossbeam_queue.specs.Passes.{view, IsPassOf}
use Rattle.intake.specs.declared.seats.SendSeat.{SendSeat}
use Rattle.intake.specs.Rule.{taker_view}
use Rattle.intake.specs.Seats.{sender_of, sent_by}
use Rattle.intake.proofs.ring.Intake.new.Given as goal

-- the seats of the senders so far
abbrev pub invariant-loop-sender : goal.invariant-loop-sender
invariant-loop-sender l =
    IsPassOf l.ring l.pass
    × (view l.pass ≡ taker_view l.sender)
    × All (λ (s : SendSeat). IsPassOf l.ring s.pass × (sent_by s ≡ [])) l.seats
    × (map sender_of l.seats ≡ range_with_len 0 l.sender)

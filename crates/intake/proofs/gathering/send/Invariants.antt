use Rattle.std.proofs.Common.{◌≡◌}
use Rattle.intake.specs.Seats.{IsSendSeatOf, sender_of, sent_by}
use Rattle.intake.proofs.gathering.send.Given as goal

-- nothing was sent so far
abbrev pub invariant-loop : goal.invariant-loop
invariant-loop g l =
    IsSendSeatOf l.intake l.seat × (sender_of l.seat ≡ sender_of l.fn.seat) × (sent_by l.seat ≡ sent_by l.fn.seat) × (l.unsent ≡ l.fn.parsed)

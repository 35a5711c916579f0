use Rattle.std.proofs.Common.{◌≡◌, map}
use Rattle.intake.specs.Gathering.{carried, parsed_at, share_of}
use Rattle.intake.specs.Passes.{IsShareBehind, no_passes, passed_below}
use Rattle.intake.specs.Seats.{IsSendSeatOf, sender_of, sent_by}
use Rattle.intake.proofs.gathering.send_behind_gate.Given as goal

-- the seat has sent its share of the positions so far, and passed the gate before it
abbrev pub invariant-loop-position : goal.invariant-loop-position
invariant-loop-position g l =
    IsSendSeatOf l.intake l.seat × (sender_of l.seat ≡ sender_of l.fn.seat)
    × (map carried (sent_by l.seat) ≡ map (parsed_at l.wires) (share_of l.position l.senders (sender_of l.fn.seat)))
    × (l.log.gate ≡ l.initial.log.gate)
    × (l.log.passes ≡ passed_below (no_passes (sender_of l.fn.seat) l.senders) l.position)
    × IsShareBehind (g.G.SendGate.is_passed l.initial.log.gate.now) l.position l.senders (sender_of l.fn.seat)

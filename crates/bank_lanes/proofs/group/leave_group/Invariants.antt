use Rattle.std.proofs.Common.{All}
use Rattle.bank_lanes.specs.Groups.{IsEmpty}
use Rattle.bank_lanes.proofs.group.leave_group.Given as goal

abbrev pub invariant-loop-seat : goal.invariant-loop-seat
invariant-loop-seat g l = All IsEmpty l.seats.items

abbrev pub decreases-loop-seat : goal.decreases-loop-seat
decreases-loop-seat g l = goal.left-loop-seat g l

use Rattle.std.proofs.Common.{All}
use Rattle.bank_lanes.specs.Seats.{IsEmptySeat}
use Rattle.bank_lanes.proofs.seats.leave_all.Given as goal

abbrev pub invariant-loop-seat : goal.invariant-loop-seat
invariant-loop-seat g l = All IsEmptySeat l.seats.items

abbrev pub decreases-loop-seat : goal.decreases-loop-seat
decreases-loop-seat g l = goal.left-loop-seat g l

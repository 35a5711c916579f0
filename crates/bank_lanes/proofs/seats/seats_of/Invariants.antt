use Rattle.std.proofs.Common.{◌≡◌, ◌≤◌, vec_len, vec_capacity}
use Rattle.bank_lanes.specs.Seats.{AreNewSeats}
use Rattle.bank_lanes.proofs.seats.seats_of.Given as goal

abbrev pub invariant-loop-lane : goal.invariant-loop-lane
invariant-loop-lane g l = (vec_len l.seats ≡ l.lane) × (l.lanes ≤ vec_capacity l.seats) × AreNewSeats l.seats.items

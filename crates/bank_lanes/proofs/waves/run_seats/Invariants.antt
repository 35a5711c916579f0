use Rattle.std.proofs.Common.{◌≡◌, ◌+◌, ◌*◌, ◌-◌, length, false, All}
use Rattle.std.specs.List.{HoldsAt}
use mathlib.Core.List.{IsPrefix}
use Rattle.bank_lanes.specs.Gates.{AreBehind}
use Rattle.bank_lanes.specs.Seats.{IsEmptySeat, AreSeats}
use Rattle.bank_lanes.proofs.waves.run_seats.Given as goal

abbrev pub invariant-waves : goal.invariant-waves
invariant-waves g l = record {
  origin : l.core.origin.value ≡ l.initial.core.origin.value;
  lanes : l.core.lanes ≡ l.initial.core.lanes;
  behind : AreBehind (g.G.Gate.is_passed l.gate) l.initial.core.journal.items → AreBehind (g.G.Gate.is_passed l.gate) l.core.journal.items;
  longer : IsPrefix l.initial.core.journal.items l.core.journal.items;
  seats : AreSeats l.seats l.core.origin.value l.core.journal.items;
  empty : All IsEmptySeat l.seats;
  first : HoldsAt (λ seat. seat.gave_back ≡ false) l.seats 0;
}

abbrev pub decreases-waves : goal.decreases-waves
decreases-waves g l = 2 * (g.W.Work.job l.core.origin.value.told).count + 2 * l.core.lanes - length l.core.journal.items

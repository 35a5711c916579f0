use Rattle.std.proofs.Common.{◌≡◌, length}
use Rattle.std.specs.List.{AllWithin}
use mathlib.Core.List.{IsPrefix}
use Rattle.bank_lanes.specs.Seats.{IsEmptySeat, AreSeats, GrantsAlone}
use Rattle.bank_lanes.proofs.waves.lend_to_others.Given as goal

abbrev pub invariant-loop-lane : goal.invariant-loop-lane
invariant-loop-lane g l = record {
  origin : l.core.origin.value ≡ l.initial.core.origin.value;
  lanes : l.core.lanes ≡ l.initial.core.lanes;
  longer : IsPrefix l.initial.core.journal.items l.core.journal.items;
  grants : GrantsAlone l.initial.core.journal.items l.core.journal.items;
  seats : AreSeats l.seats l.core.origin.value l.core.journal.items;
  empty : AllWithin IsEmptySeat l.seats l.lane (length l.seats);
}

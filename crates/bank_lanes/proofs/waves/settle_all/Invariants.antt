use Rattle.std.proofs.Common.{◌≡◌, ℕ, ◌≤◌, length, get_or}
use Rattle.std.specs.List.{AllWithin}
use mathlib.Core.List.{IsPrefix}
use Rattle.bank_lanes.specs.Seats.{IsEmptySeat, AreSeats, HasItsEffects, HasPerformedAt, CommitsAlone}
use Rattle.bank_lanes.proofs.waves.settle_all.Given as goal

abbrev pub invariant-loop-lane : goal.invariant-loop-lane
invariant-loop-lane g l = record {
  origin : l.core.origin.value ≡ l.initial.core.origin.value;
  lanes : l.core.lanes ≡ l.initial.core.lanes;
  longer : IsPrefix l.initial.core.journal.items l.core.journal.items;
  commits : CommitsAlone (HasPerformedAt l.initial.seats) l.initial.core.journal.items l.core.journal.items;
  seats : AreSeats l.seats l.core.origin.value l.core.journal.items;
  rest : (k : ℕ) (d : _) → l.lane ≤ k → get_or l.seats k d ≡ get_or l.initial.seats k d;
  empty : AllWithin IsEmptySeat l.seats 0 l.lane;
  done : AllWithin (HasItsEffects (g.W.Work.job l.initial.core.origin.value.told)) l.seats l.lane (length l.seats);
}

use Rattle.std.proofs.Common.{◌<◌, length, refl, ◌∙◌, arith}
use Rattle.std.proofs.lemmas.List.Elements.{AllWithin-more_set}
use base.Growing.{prefix_trans}
use Rattle.bank_lanes.specs.Gates.{IsBehind}
use Rattle.bank_lanes.specs.Seats.{IsEmptySeat, HasItsEffects, HasPerformedAt}
use Rattle.bank_lanes.proofs.SeatSteps.{seats_set, rest_set, rest_stays, commits_at, more_new}
use Rattle.bank_lanes.proofs.waves.settle_all.Goals as goal

pub loop-lane-preserved : goal.loop-lane-preserved
loop-lane-preserved g c =
    let i = c.loop-lane.invariant in
    let within : c.loop-lane.lane < length c.loop-lane.seats = omega arith in
    record {
      origin = c.settle.ensures.origin ∙ i.origin;
      lanes = c.settle.ensures.lanes ∙ i.lanes;
      longer = prefix_trans c.args.core.now.journal.items c.loop-lane.core.journal.items c.settle.new.core.journal.items i.longer c.settle.ensures.grew.longer;
      commits = more_new (IsBehind (HasPerformedAt c.args.seats.now)) c.args.core.now.journal.items
          c.loop-lane.core.journal.items c.settle.new.core.journal.items c.settle.ensures.grew.longer i.commits
          (commits_at c.args.seats.now c.loop-lane.seats c.loop-lane.core.journal.items
          c.settle.new.core.journal.items c.loop-lane.lane c.index-seats-lane.result (omega arith) i.rest
          c.settle.ensures.commits);
      seats = seats_set c.loop-lane.seats c.loop-lane.core.origin.value c.settle.new.core.origin.value
          c.loop-lane.core.journal.items c.settle.new.core.journal.items c.loop-lane.lane c.settle.new.seat
          within c.settle.ensures.origin c.settle.ensures.grew i.seats c.settle.ensures.seat;
      rest = rest_stays c.args.seats.now c.loop-lane.seats c.loop-lane.lane c.settle.new.seat i.rest;
      empty = AllWithin-more_set c.loop-lane.seats c.loop-lane.lane c.settle.new.seat within IsEmptySeat i.empty c.settle.ensures.empty;
      done = rest_set (HasItsEffects (g.W.Work.job c.args.core.now.origin.value.told)) c.loop-lane.seats _ c.loop-lane.lane c.settle.new.seat refl i.done;
    }

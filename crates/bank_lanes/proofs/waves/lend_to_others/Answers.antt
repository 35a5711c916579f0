use Rattle.std.proofs.Common.{◌≡◌, sym, ap, subst, ◌∙◌, arith}
use mathlib.Core.List.{IsPrefix}
use base.Growing.{prefix_trans}
use lib.Seq.{set-get_or}
use Rattle.bank_law.specs.declared.event.EventKind.TheVariants.{Grant}
use Rattle.bank_lanes.specs.Seats.{IsEmptySeat, GrantsAlone}
use Rattle.bank_lanes.proofs.SeatSteps.{seats_set, seats_move, rest_set, rest_same, more_new}
use Rattle.bank_lanes.proofs.waves.lend_to_others.Goals as goal
use Rattle.bank_lanes.proofs.waves.lend_to_others.Goals.{else-not-seat-via-then-not-seat+else-not-lend_to, else-not-seat-via-else-not-seat}

pub loop-lane-preserved : goal.loop-lane-preserved
loop-lane-preserved g c =
    let i = c.loop-lane.invariant in
    elim c.else-not-seat.branch [
      | else-not-seat-via-then-not-seat+else-not-lend_to w ↦
          let same = ap (λ k. k.journal.items) w.core-is in
          let next = seats_set c.loop-lane.seats c.loop-lane.core.origin.value w.lend_to.new.core.origin.value
          c.loop-lane.core.journal.items w.lend_to.new.core.journal.items c.loop-lane.lane
          w.lend_to.new.seat (omega arith) w.lend_to.ensures.origin w.lend_to.ensures.grew i.seats
          w.lend_to.ensures.seat in
          record {
            origin = ap (λ k. k.origin.value) w.core-is ∙ (w.lend_to.ensures.origin ∙ i.origin);
            lanes = ap (λ k. k.lanes) w.core-is ∙ (w.lend_to.ensures.lanes ∙ i.lanes);
            longer = subst (IsPrefix c.args.core.now.journal.items) (sym same)
                (prefix_trans c.args.core.now.journal.items c.loop-lane.core.journal.items
                w.lend_to.new.core.journal.items i.longer w.lend_to.ensures.grew.longer);
            grants = subst (GrantsAlone c.args.core.now.journal.items) (sym same)
                (more_new (λ event. event.kind ≡ Grant) c.args.core.now.journal.items
                c.loop-lane.core.journal.items w.lend_to.new.core.journal.items w.lend_to.ensures.grew.longer
                i.grants w.lend_to.ensures.grants);
            seats = seats_move _ _ _ _ _ _ w.seats-is (ap (λ k. k.origin.value) w.core-is) same next;
            empty = rest_set IsEmptySeat c.loop-lane.seats c.else-not-seat.seats c.loop-lane.lane w.lend_to.new.seat w.seats-is i.empty;
          }
      | else-not-seat-via-else-not-seat w ↦
          let same = ap (λ k. k.journal.items) w.core-is in
          let stay = w.seats-is ∙ set-get_or c.loop-lane.seats c.loop-lane.lane c.index-seats-lane.result in
          record {
            origin = ap (λ k. k.origin.value) w.core-is ∙ i.origin;
            lanes = ap (λ k. k.lanes) w.core-is ∙ i.lanes;
            longer = subst (IsPrefix c.args.core.now.journal.items) (sym same) i.longer;
            grants = subst (GrantsAlone c.args.core.now.journal.items) (sym same) i.grants;
            seats = seats_move c.loop-lane.seats c.else-not-seat.seats c.loop-lane.core.origin.value
                c.else-not-seat.core.origin.value c.loop-lane.core.journal.items
                c.else-not-seat.core.journal.items stay (ap (λ k. k.origin.value) w.core-is) same i.seats;
            empty = rest_same IsEmptySeat c.loop-lane.seats c.else-not-seat.seats c.loop-lane.lane stay i.empty;
          }
    ]

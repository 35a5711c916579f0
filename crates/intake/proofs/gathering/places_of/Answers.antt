use Rattle.std.proofs.Common.{◌∙◌, ap, arith, length, sym}
use Rattle.std.proofs.lemmas.List.{get_or_default, length-set}
use Rattle.intake.specs.declared.ticket.Ticket.{Ticket}
use Rattle.intake.proofs.Gathers.{one_noted}
use Rattle.intake.proofs.gathering.places_of.Goals as goal

pub loop-place-init : goal.loop-place-init
loop-place-init c = record { count = sym c.in_ok-places.places.ok.0 ∙ c.in_ok-places.ensures.len; places = λ k d lt. absurd (omega (arith, lt)) }

pub loop-place-preserved : goal.loop-place-preserved
loop-place-preserved c =
    let i = c.loop-place.invariant in
    let ts = c.args.tickets.now in
    let at = c.loop-place.place in
    let t = c.index-tickets-place.result in
    let room = c.requires at t c.loop-place-test.true in
    let below = ap (λ (u : Ticket). u.position) c.index-tickets-place.is in
    record {
      count = ap length c.note.ensures ∙ length-set c.loop-place.places.items t.position at ∙ i.count;
      places = one_noted c.loop-place.places.items c.note.new.places.items ts t at c.loop-place-test.true (omega (arith, room, below, i.count))
          (λ d. get_or_default ts at d t c.loop-place-test.true ∙ sym c.index-tickets-place.is) c.note.ensures i.places;
    }

pub returns-clause-places : goal.returns-clause-places
returns-clause-places c = λ k d lt. c.loop-place.invariant.places k d (omega (arith, lt, c.loop-place-test.false))

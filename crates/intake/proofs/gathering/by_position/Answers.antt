use Rattle.std.proofs.Common.{◌∙◌, ap, map, refl, subst, sym}
use Rattle.std.proofs.lemmas.List.{take_all}
use Rattle.message_codec.specs.Parsing.{parsed_of}
use Rattle.intake.specs.Layout.{LeadsToParsed, place_of}
use Rattle.intake.proofs.Gathers.{one_taken}
use Rattle.intake.proofs.gathering.by_position.Goals as goal

pub loop-position-init : goal.loop-position-init
loop-position-init c = record {
  parsed = c.in_ok-parsed.ensures;
  tickets = λ p le lt. subst (λ l. LeadsToParsed c.args.wires.now c.args.places.now l p) (sym c.into_vec-tickets.ensures) (c.requires.tickets p lt);
}

pub loop-position-preserved : goal.loop-position-preserved
loop-position-preserved c =
    let i = c.loop-position.invariant in
    let taken = c.take_parsed.ensures in
    let h = one_taken c.args.wires.now c.args.places.now c.loop-position.tickets.items
    c.take_parsed.new.tickets.items c.loop-position.parsed c.push.new.self c.take_parsed.result
    c.loop-position.position (place_of c.args.places.now c.loop-position.position)
    c.loop-position-test.true refl taken.taken taken.count taken.others c.in_ok-push.ensures.ok i.parsed i.tickets in
    record { parsed = h.0; tickets = h.1 }

pub returns : goal.returns
returns c = c.loop-position.invariant.parsed ∙ ap (map parsed_of) (take_all c.loop-position.position c.args.wires.now c.loop-position-test.false)

use Rattle.std.proofs.Common.{◌∙◌, All, List, length, subst, sym, ◌<◌}
use Rattle.std.proofs.lemmas.Result.{IfOk-weaker}
use Rattle.intake.specs.declared.ticket.Ticket.{Ticket}
use Rattle.intake.specs.Layout.{LeadsTo, LeadsToParsed}
use Rattle.intake.proofs.Gathers.{all_fair, all_lead, came_in_order}
use Rattle.intake.proofs.gathering.laid_out.Goals as goal

pub returns-then-senders-eq1-clause-parsed : goal.returns-then-senders-eq1-clause-parsed
returns-then-senders-eq1-clause-parsed c =
    IfOk-weaker c.as_they_come.result _ _ (λ g is. is ∙ came_in_order c.args.wires.now c.args.senders c.args.tickets c.if-senders-eq1.true c.requires) c.as_they_come.ensures.parsed

pub places_of-requires : goal.places_of-requires
places_of-requires c = subst (All (λ (t : Ticket). t.position < length c.args.wires.now))
    (sym c.as_slice-2.ensures) (λ k d lt.
    (all_fair c.args.wires.now c.args.senders c.args.tickets c.requires k d lt).0)

pub by_position-requires-clause-tickets : goal.by_position-requires-clause-tickets
by_position-requires-clause-tickets c =
    let wires = c.args.wires.now in
    let places = c.in_ok-places.places.items in
    let found = subst (λ (ts : List Ticket). All (λ (t : Ticket). LeadsTo places ts t.position) ts) c.as_slice-2.ensures c.in_ok-places.ensures.places in
    λ p lt. subst (λ l. LeadsToParsed wires l c.args.tickets p) (sym c.as_slice-3.ensures.value) (all_lead wires c.args.senders c.args.tickets places c.requires found p lt)

use Rattle.std.proofs.Common.{◌≡◌, ◌∙◌, ℕ, List, ap, arith, length, rules}
use Rattle.intake.specs.Gathering.{share_of}
use Rattle.std.proofs.lemmas.Result.{IfOk-weaker}
use Rattle.intake.proofs.Behind.{all_behind}
use Rattle.intake.proofs.Gathers.{arrived_ascending, arrived_once, left_carries, shares_sent}
use Rattle.intake.proofs.gathering.gather.Goals as goal

pub close-requires-clause-seats : goal.close-requires-clause-seats
close-requires-clause-seats g c = λ k d lt.
    (shares_sent c.in_ok-intake.field-0.intake c.as_slice-wires.result.now c.args.senders _ c.in_ok-seats.seats
    _ c.in_ok-intake.ensures.senders c.in_ok-seats.ensures c.in_ok-sent.ensures.count
    c.in_ok-sent.ensures.each k d lt).0

pub laid_out-requires : goal.laid_out-requires
laid_out-requires g c =
    left_carries c.in_ok-intake.field-0.intake c.as_slice-wires.result.now c.args.senders _ _
    c.in_ok-seats.seats _ _ c.in_ok-tickets.tickets (omega (arith, c.requires.senders.0))
    c.in_ok-intake.ensures.senders c.in_ok-seats.ensures
    c.in_ok-sent.ensures.count c.in_ok-sent.ensures.each c.in_ok-intake.ensures.taker.1 c.in_ok-intake.ensures.made c.in_ok-tickets.ensures.sent c.in_ok-tickets.ensures.others

pub returns-clause-once : goal.returns-clause-once
returns-clause-once g c =
    let wires = c.as_slice-wires.result.now in
    let same : length wires ≡ length c.args.wires.now = ap length c.as_slice-wires.ensures in
    let carries =
    left_carries c.in_ok-intake.field-0.intake c.as_slice-wires.result.now c.args.senders _ _
    c.in_ok-seats.seats _ _ c.in_ok-tickets.tickets (omega (arith, c.requires.senders.0))
    c.in_ok-intake.ensures.senders c.in_ok-seats.ensures
    c.in_ok-sent.ensures.count c.in_ok-sent.ensures.each c.in_ok-intake.ensures.taker.1 c.in_ok-intake.ensures.made c.in_ok-tickets.ensures.sent c.in_ok-tickets.ensures.others
    in
    IfOk-weaker c.laid_out.result _ _ (λ x is p lt. arrived_once wires c.args.senders c.in_ok-tickets.tickets x.arrivals is carries p (omega (arith, same, lt))) c.laid_out.ensures.arrivals

pub returns-clause-ascending : goal.returns-clause-ascending
returns-clause-ascending g c =
    let wires = c.as_slice-wires.result.now in
    let carries =
    left_carries c.in_ok-intake.field-0.intake c.as_slice-wires.result.now c.args.senders _ _
    c.in_ok-seats.seats _ _ c.in_ok-tickets.tickets (omega (arith, c.requires.senders.0))
    c.in_ok-intake.ensures.senders c.in_ok-seats.ensures
    c.in_ok-sent.ensures.count c.in_ok-sent.ensures.each c.in_ok-intake.ensures.taker.1 c.in_ok-intake.ensures.made c.in_ok-tickets.ensures.sent c.in_ok-tickets.ensures.others
    in
    IfOk-weaker c.laid_out.result _ _
    (λ x is s. arrived_ascending wires c.args.senders c.in_ok-tickets.tickets x.arrivals is carries s
    ∙ ap (λ (w : List (List ℕ)). share_of (length w) c.args.senders s) c.as_slice-wires.ensures)
    c.laid_out.ensures.arrivals

pub returns-clause-behind : goal.returns-clause-behind
returns-clause-behind g c =
    let wires = c.as_slice-wires.result.now in
    let same : length wires ≡ length c.args.wires.now = ap length c.as_slice-wires.ensures in
    let behind =
    all_behind (g.G.SendGate.is_passed c.args.gate.now) (length wires) c.args.senders _ c.in_ok-seats.seats _ (omega (arith, c.requires.senders.0)) c.in_ok-intake.ensures.senders c.in_ok-seats.ensures
    c.in_ok-sent.ensures.count (search (rules, c.in_ok-sent.ensures.behind))
    in
    IfOk-weaker c.laid_out.result _ _ (λ _ _ p lt. behind p (omega (arith, same, lt))) c.laid_out.ensures.parsed

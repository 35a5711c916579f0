use Rattle.std.proofs.Common.{◌≡◌, ◌∙◌, IfOk, List, ap, arith, get_or, length, subst, sym}
use Rattle.intake.specs.declared.seats.SendSeat.{SendSeat}
use Rattle.intake.specs.Passes.{IsShareBehind}
use Rattle.intake.specs.Seats.{sender_of}
use Rattle.intake.proofs.gathering.send_all.Goals as goal

pub returns-clause-behind : goal.returns-clause-behind
returns-clause-behind g c = λ i d r lt.
    let seats : c.into_vec.result.items ≡ c.args.seats = c.into_vec.ensures in
    let long = ap length seats in
    let given = (c.in_ok-sent.ensures.each i r (omega (arith, long, lt))).1 in
    let of_seat : given.job ≡ get_or c.args.seats i d = sym (given.job_is d) ∙ ap (λ (l : List SendSeat). get_or l i d) seats in
    subst (λ (s : SendSeat). IfOk (get_or c.in_ok-sent.sent.items i r)
    (λ _. IsShareBehind (g.G.SendGate.is_passed c.args.gate.now) (length c.args.wires.now) c.args.senders
    (sender_of s))) of_seat given.call.met.1

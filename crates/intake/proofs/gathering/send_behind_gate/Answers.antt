use Rattle.std.proofs.Common.{◌≡◌, ◌∙◌, ◌+◌, [], ap, arith, rules, subst}
use Rattle.std.proofs.lemmas.List.{get_or_default}
use Rattle.message_codec.specs.Parsing.{parsed_of}
use Rattle.intake.specs.declared.gate.Passes.{Passes}
use Rattle.intake.specs.Gathering.{carried, parsed_at}
use Rattle.intake.specs.Passes.{passed_below}
use Rattle.intake.specs.Seats.{next_ticket, sender_of, sent_by}
use Rattle.intake.proofs.Gathers.{sent_length, sent_more, sent_same}
use Rattle.intake.proofs.Behind.{behind_more, behind_same}
use Rattle.intake.proofs.gathering.send_behind_gate.Goals as goal
use Rattle.intake.proofs.gathering.send_behind_gate.Goals.{then-position-senders+in_ok-parsed, else-position-senders}

pub send-requires-clause-room : goal.send-requires-clause-room
send-requires-clause-room g c =
    let sent = sent_length c.args.wires.now (sent_by c.loop-position.seat) c.loop-position.position c.args.senders (sender_of c.args.seat) c.loop-position.invariant.2 in
    omega (arith, sent, c.loop-position-test.true, c.requires.wires)

pub loop-position-preserved : goal.loop-position-preserved
loop-position-preserved g c =
    let i = c.loop-position.invariant in
    let p = c.loop-position.position in
    let wires = c.args.wires.now in
    let before = sent_by c.loop-position.seat in
    elim c.if-position-senders.branch [
      | then-position-senders+in_ok-parsed w ↦
          let wire = w.as_slice.ensures ∙ w.index-wires-position.is ∙ get_or_default wires p w.index-wires-position.result [] c.loop-position-test.true in
          let has : carried (next_ticket c.loop-position.seat p w.in_ok-parsed.parsed) ≡ parsed_at wires p = ap (λ y. (p, y)) (w.in_ok-parsed.ensures.exact ∙ ap parsed_of wire) in
          rw (w.seat-is, w.log-is) (
            w.send.ensures.seat.0,
            w.send.ensures.seat.1 ∙ i.1,
            sent_more wires before _ (next_ticket c.loop-position.seat p w.in_ok-parsed.parsed) p c.args.senders (sender_of c.args.seat) i.2 w.send.ensures.sent has w.if-position-senders.true,
            w.pass.ensures.gate ∙ i.3,
            w.pass.ensures.noted ∙ ap (λ x. passed_below x (p + 1)) i.4,
            behind_more (g.G.SendGate.is_passed c.args.log.now.gate.now) p c.args.senders (sender_of c.args.seat) i.5 w.if-position-senders.true
                (subst (λ s. g.G.SendGate.is_passed c.args.log.now.gate.now s p) (ap (λ (x : Passes). x.sender) i.4)
                (subst (λ e. g.G.SendGate.is_passed e.now c.loop-position.log.passes.sender p) i.3 w.pass.ensures.passed)),
          )
      | else-position-senders w ↦ rw (w.seat-is, w.log-is) (
        i.0,
        i.1,
        sent_same wires before p c.args.senders (sender_of c.args.seat) i.2 w.if-position-senders.false,
        w.skip.ensures.gate ∙ i.3,
        w.skip.ensures.noted ∙ ap (λ x. passed_below x (p + 1)) i.4,
        behind_same (g.G.SendGate.is_passed c.args.log.now.gate.now) p c.args.senders (sender_of c.args.seat) i.5 w.if-position-senders.false,
      )
    ]

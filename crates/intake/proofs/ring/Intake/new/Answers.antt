use Rattle.std.proofs.Common.{rules, ◌≡◌, suc, ◌+◌, ap, ◌∙◌, sym, subst, [], ◌∷◌, ◌++◌, All, map, arith}
use Rattle.std.proofs.lemmas.List.{map-append}
use Rattle.std.proofs.lemmas.List.Elements.{All-push}
use Rattle.crossbeam_queue.specs.Passes.{IsPassOf}
use Rattle.intake.specs.declared.seats.SendSeat.{SendSeat}
use Rattle.intake.specs.Rule.{taker_view, with_seat_made}
use Rattle.intake.specs.Seats.{sender_of, sent_by}
use Rattle.intake.proofs.Moves.{begins, forks}
use Rattle.intake.proofs.Numbers.{range_more}
use Rattle.intake.proofs.ring.Intake.new.Goals as goal

pub ruled-requires-clause-rule : goal.ruled-requires-clause-rule
ruled-requires-clause-rule c = begins

pub another-given-requires-clause-rule : goal.another-given-requires-clause-rule
another-given-requires-clause-rule c = forks _ _ (ap (λ v. v.takes) c.loop-sender.invariant.1)

pub loop-sender-preserved : goal.loop-sender-preserved
loop-sender-preserved c =
    let i = c.loop-sender.invariant in
    let r = c.another-given.ensures.rule in
    let e = c.in_ok-push.ensures.ok in
    let n : suc c.loop-sender.sender ≡ c.loop-sender.sender + 1 = omega arith in (
      search rules,
      r.0 ∙ ap with_seat_made i.1 ∙ ap taker_view n,
      subst (All (λ (s : SendSeat). IsPassOf c.in_ok-ring.ring s.pass × (sent_by s ≡ []))) (sym e)
          (All-push (λ (s : SendSeat). IsPassOf c.in_ok-ring.ring s.pass × (sent_by s ≡ [])) c.loop-sender.seats
          _ i.2 (search rules, ap (λ v. v.sent) r.1)),
      ap (map sender_of) e ∙ map-append sender_of c.loop-sender.seats (_ ∷ []) ∙ ap (λ xs. xs ++ c.loop-sender.sender ∷ []) i.3 ∙ sym (range_more c.loop-sender.sender),
    )

use Rattle.std.proofs.Common.{◌≡◌, List, refl, le_refl, ap, sym, subst, subst₂, ◌∙◌}
use Rattle.std.specs.Prelude.{IfOk, drop, length, take}
use Rattle.bank_core.specs.Origins.{state_after}
use Rattle.bank_core.specs.Told.{done_from}
use Rattle.bank_core.specs.Ends.{outcomes_at_end}
use Rattle.tx_report.specs.declared.outcome.Outcome.{Outcome}
use Rattle.bank_shared.proofs.Turns.{had_turn}
use Rattle.bank_shared.proofs.desk.SharedDesk.outcomes_from.Goals as goal

pub returns-clause-serial : goal.returns-clause-serial
returns-clause-serial g c =
    subst (λ o. IfOk c.outcomes_from-told.result
    (λ (told : List Outcome). told
    ≡ take (length told) (drop c.args.from (outcomes_at_end g.W.Work.job o))))
    (ap (λ k. k.origin.value) c.deref.ensures ∙ ap (λ r. r.origin) c.take_turn-kept.ensures.gets.desk)
    c.outcomes_from-told.ensures.serial

pub returns-clause-exact : goal.returns-clause-exact
returns-clause-exact g c =
    subst₂ (λ o h. IfOk c.outcomes_from-told.result
    (λ (told : List Outcome). told
    ≡ done_from (state_after g.W.Work.job o h).stage c.args.from c.args.most))
    (ap (λ k. k.origin.value) c.deref.ensures ∙ ap (λ r. r.origin) c.take_turn-kept.ensures.gets.desk)
    (ap (λ k. k.journal.items) c.deref.ensures ∙ sym (ap (λ m. m.0.seen) c.release.ensures.me))
    c.outcomes_from-told.ensures.exact

pub release-requires-clause-turn : goal.release-requires-clause-turn
release-requires-clause-turn g c = had_turn _ _ _ c.take_turn-kept.result.drawn _ c.args.reader.now.seat.me.0 _ c.take_turn-kept.ensures.me refl (le_refl _)

use Rattle.std.proofs.Common.{ap, ◌∙◌, ◌++◌, refl}
use Rattle.crossbeam_queue.specs.Passes.{view}
use Rattle.intake.proofs.Moves.{pops, balances, all_left}
use Rattle.intake.proofs.ring.Intake.close.Goals as goal

pub try_pop_as-requires-clause-rule : goal.try_pop_as-requires-clause-rule
try_pop_as-requires-clause-rule g c = pops _ _ c.loop.invariant.1

pub is_empty_as-requires-clause-rule : goal.is_empty_as-requires-clause-rule
is_empty_as-requires-clause-rule g c = balances _ _ (ap (λ v. v.takes) c.in-None-try_pop_as.ensures.rule ∙ c.loop.invariant.1)

pub returns-then-is_empty_as : goal.returns-then-is_empty_as
returns-then-is_empty_as g c =
    let j = c.joined-pass.ensures.view in
    let i = c.loop.invariant in
    let r = c.in-None-try_pop_as.ensures.rule in
    let h = all_left (view c.try_pop_as.new.pass) _ c.args.seats _
    (ap (λ v. v.taken) r ∙ i.3 ∙ ap (λ v. v.taken ++ c.loop.left) j)
    (ap (λ v. v.joined) r ∙ i.4 ∙ ap (λ v. v.joined) j)
    (ap (λ v. v.made) r ∙ i.2 ∙ ap (λ v. v.made) j)
    (c.if-is_empty_as.ensures.rule refl) in
    record { sent = h.0; others = h.1 }

use Rattle.std.proofs.Common.{◌≡◌, ◌∙◌, refl, sym, ap, subst, Ok, IfOk}
use Rattle.message_codec.specs.declared.parsed.Parsed.{Parsed}
use Rattle.admission.specs.declared.weighing.Weighed.{Weighed}
use Rattle.admission.specs.Admission.{start_of}
use Rattle.admission.specs.Weighing.{IsTold, weighed, with_loaded}
use Rattle.admission.proofs.AnswerLaws.{stands_sane}
use Rattle.admission.proofs.weighing.weigh_told.Goals as goal

pub returns-in-Bad : goal.returns-in-Bad
unfolding weighed
returns-in-Bad c = rw c.in-Bad.is refl

pub with_budget-requires-clause-programs : goal.with_budget-requires-clause-programs
with_budget-requires-clause-programs c = λ k d l.
    ((stands_sane (start_of c.args.before.recent.now c.args.before.accounts.now c.args.before.limits.now)
    c.in-Good.tx c.in-Good.name c.in-Ok.loaded
    (sym (c.in_ok-loaded.ensures c.in-Good.name
    (subst (λ (w : Parsed). IsTold c.args.before.recent.now w c.args.was_processed) c.in-Good.is
    c.requires.told)) ∙ c.in-Ok.is)).programs k d l).1

pub returns-in-Ok : goal.returns-in-Ok
unfolding weighed
returns-in-Ok c =
    let start = start_of c.args.before.recent.now c.args.before.accounts.now c.args.before.limits.now in
    let same : weighed start c.args.position c.args.wire ≡ with_loaded c.args.position c.in-Good.tx c.in-Good.name (Ok c.in-Ok.loaded) =
    ap (λ (wire : Parsed). weighed start c.args.position wire) c.in-Good.is
    ∙ ap (with_loaded c.args.position c.in-Good.tx c.in-Good.name)
    (sym (c.in_ok-loaded.ensures c.in-Good.name
    (subst (λ (w : Parsed). IsTold c.args.before.recent.now w c.args.was_processed) c.in-Good.is
    c.requires.told)) ∙ c.in-Ok.is) in
    subst (λ (w : Weighed). IfOk c.with_budget.result (λ found. found ≡ w)) (sym same) c.with_budget.ensures

pub returns-in-Err : goal.returns-in-Err
unfolding weighed
returns-in-Err c =
    let start = start_of c.args.before.recent.now c.args.before.accounts.now c.args.before.limits.now in
    sym (ap (λ (wire : Parsed). weighed start c.args.position wire) c.in-Good.is
    ∙ ap (with_loaded c.args.position c.in-Good.tx c.in-Good.name)
    (sym (c.in_ok-loaded.ensures c.in-Good.name
    (subst (λ (w : Parsed). IsTold c.args.before.recent.now w c.args.was_processed) c.in-Good.is
    c.requires.told)) ∙ c.in-Err.is))

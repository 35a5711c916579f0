use Rattle.std.proofs.Common.{Some, ap, sym, ◌∙◌, arith}
use Rattle.bank_law.specs.declared.event.EventKind.TheVariants.{Commit}
use Rattle.bank_law.specs.History.{holds, returns}
use Rattle.bank_law.proofs.Histories.{holds_push, returns_push}
use Rattle.lane_trials.proofs.tests.desk.commit.Goals as goal

pub commit-requires-clause-held : goal.commit-requires-clause-held
commit-requires-clause-held g c = c.requires.held ∙ sym (ap (λ v. Some v.position) (c.requires.loans c.args.loan))

pub returns-clause-free : goal.returns-clause-free
returns-clause-free g c =
    let v = g.D.Desk.view c.args.pass.now in
    ap holds c.commit.ensures.event.mine ∙ holds_push v.mine (record { kind = Commit; lane = v.lane; position = _ })

pub returns-clause-returns : goal.returns-clause-returns
returns-clause-returns g c =
    let v = g.D.Desk.view c.args.pass.now in
    let a = ap returns c.commit.ensures.event.mine ∙ returns_push v.mine (record { kind = Commit; lane = v.lane; position = _ }) in
    omega (arith, a)

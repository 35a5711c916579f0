use Rattle.std.proofs.Common.{◌≡◌, ℕ, Some, sym, ◌∙◌, ap, arith}
use Rattle.bank_law.specs.declared.event.EventKind.TheVariants.{Grant}
use Rattle.bank_law.specs.History.{PassView, holds, returns}
use Rattle.bank_law.proofs.Histories.{holds_push, returns_push}
use Rattle.bank_core.specs.Desks.{OneMore}
use Rattle.lane_trials.proofs.tests.desk.take.Goals as goal

-- a lane that was lent a position holds it
lent : (v w : PassView) (p : ℕ) → OneMore v Grant p w → holds w.mine ≡ Some p
lent v w p more = ap holds more.mine ∙ holds_push v.mine (record { kind = Grant; lane = v.lane; position = p })

pub returns-in-Loan-clause-loan : goal.returns-in-Loan-clause-loan
returns-in-Loan-clause-loan g c = (
  c.in-Loan.ensures.take.0 ∙ sym c.in-Loan.ensures.stays.lane,
  c.in-Loan.ensures.take.1,
  lent _ _ _ c.in-Loan.ensures.event,
)

pub returns-in-Loan-clause-returns : goal.returns-in-Loan-clause-returns
returns-in-Loan-clause-returns g c =
    let v = g.D.Desk.view c.args.pass.now in
    let a = ap returns c.in-Loan.ensures.event.mine ∙ returns_push v.mine (record { kind = Grant; lane = v.lane; position = c.in-Loan.loan.position }) in
    omega (arith, a)

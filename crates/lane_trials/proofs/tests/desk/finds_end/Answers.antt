use Rattle.std.proofs.Common.{◌≡◌, ℕ, Some, ap, ◌∙◌}
use Rattle.bank_law.specs.declared.event.EventKind.TheVariants.{Grant}
use Rattle.bank_law.specs.History.{PassView, holds}
use Rattle.bank_law.proofs.Histories.{holds_push}
use Rattle.bank_core.specs.Desks.{OneMore}
use Rattle.lane_trials.proofs.tests.desk.finds_end.Goals as goal

-- a lane that was lent a position holds it
lent : (v w : PassView) (p : ℕ) → OneMore v Grant p w → holds w.mine ≡ Some p
lent v w p more = ap holds more.mine ∙ holds_push v.mine (record { kind = Grant; lane = v.lane; position = p })

pub commit-requires-clause-held : goal.commit-requires-clause-held
commit-requires-clause-held g c κs within = lent _ _ _ c.in-Loan.ensures.event

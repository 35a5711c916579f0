use Rattle.std.proofs.Common.{◌≡◌, ℕ, None, Some, ap, sym, ◌∙◌}
use Rattle.bank_law.specs.declared.event.EventKind.TheVariants.{Return}
use Rattle.bank_law.specs.History.{PassView, holds}
use Rattle.bank_law.proofs.Histories.{holds_push}
use Rattle.bank_core.specs.Desks.{OneMore}
use Rattle.lane_trials.proofs.tests.desk.give_back.Goals as goal

-- a lane holds nothing once it gave back
gave_back : (v w : PassView) (p : ℕ) → OneMore v Return p w → holds w.mine ≡ None
gave_back v w p more = ap holds more.mine ∙ holds_push v.mine (record { kind = Return; lane = v.lane; position = p })

pub give_back-requires-clause-held : goal.give_back-requires-clause-held
give_back-requires-clause-held g c = c.requires.held ∙ sym (ap (λ v. Some v.position) (c.requires.loans c.args.loan))

pub returns-clause-free : goal.returns-clause-free
returns-clause-free g c = gave_back _ _ _ c.give_back.ensures.event

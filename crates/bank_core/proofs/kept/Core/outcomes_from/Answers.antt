use Rattle.std.proofs.Common.{◌≡◌, List, subst, sym, ◌∙◌}
use Rattle.std.specs.Prelude.{drop, length, take}
use Rattle.std.proofs.lemmas.Result.{IfOk-weaker}
use Rattle.tx_report.specs.declared.outcome.Outcome.{Outcome}
use Rattle.account_store.specs.State.{at}
use Rattle.bank_core.specs.Ends.{outcomes_at_end}
use Rattle.bank_core.specs.Origins.{state_after}
use Rattle.bank_core.specs.Told.{done_from}
use Rattle.bank_core.proofs.Tells.{told_is, told_serial}
use Rattle.bank_core.proofs.kept.Core.outcomes_from.Goals as goal

pub returns-clause-exact : goal.returns-clause-exact
returns-clause-exact g c =
    let self = c.args.self.now in
    IfOk-weaker c.shares_of.result _ (λ (told : List Outcome). told ≡ done_from (state_after g.W.Work.job self.origin.value self.journal.items).stage c.args.from c.args.most)
    (λ told is. is ∙ told_is (g.W.Work.job self.origin.value.told) (at self.origin.value.start) self.table
    self.graph self.slots.items self.outcomes.items self.journal.items self.runs c.args.from c.args.most
    c.requires _ c.as_slice.ensures.value)
    c.shares_of.ensures

pub returns-clause-serial : goal.returns-clause-serial
returns-clause-serial g c =
    let self = c.args.self.now in
    IfOk-weaker c.shares_of.result _ (λ (told : List Outcome). told ≡ take (length told) (drop c.args.from (outcomes_at_end g.W.Work.job self.origin.value)))
    (λ told is.
    let exact = is ∙ told_is (g.W.Work.job self.origin.value.told) (at self.origin.value.start) self.table
    self.graph self.slots.items self.outcomes.items self.journal.items self.runs c.args.from c.args.most
    c.requires _ c.as_slice.ensures.value in
    subst (λ (told : List Outcome). told ≡ take (length told) (drop c.args.from (outcomes_at_end g.W.Work.job self.origin.value))) (sym exact)
    (told_serial (g.W.Work.job self.origin.value.told) (at self.origin.value.start) self.journal.items self.runs.legal c.args.from c.args.most c.requires))
    c.shares_of.ensures

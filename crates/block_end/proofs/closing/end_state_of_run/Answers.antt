use Rattle.std.proofs.Common.{List, ap, subst, ◌∙◌}
use Rattle.fee_rules.specs.declared.split.FeeSplit.{FeeSplit}
use Rattle.fee_rules.specs.Fees.{split_of}
use Rattle.account_store.specs.State.{State}
use Rattle.tx_report.specs.declared.outcome.Outcome.{Outcome}
use Rattle.block_end.specs.BlockEnd.{base_fees, priority_fees}
use Rattle.block_end.specs.Blocks.{ascending, processed_in}
use Rattle.block_end.specs.Closing.{IsEndOf}
use Rattle.bank_core.specs.Ends.{state_at_end}
use Rattle.block_end.proofs.closing.end_state_of_run.Goals as goal

pub returns-clause-end : goal.returns-clause-end
returns-clause-end g c =
    subst (λ (split : FeeSplit). IsEndOf (state_at_end g.W.Work.job c.args.ended.origin.value) c.args.collector.now split c.in_ok-end.end)
    (c.split_paid-split.ensures ∙ ap (λ (os : List Outcome). split_of (base_fees os) (priority_fees os)) c.as_slice-2.ensures)
    (subst (λ (s : State). IsEndOf s c.args.collector.now c.split_paid-split.result c.in_ok-end.end) c.in_ok-accounts.ensures.state c.in_ok-end.ensures)

pub returns-clause-names : goal.returns-clause-names
returns-clause-names g c = c.ascending.ensures ∙ ap ascending (c.in_ok-names.ensures ∙ ap (λ (os : List Outcome). processed_in c.args.order.now os) c.as_slice.ensures)

use Rattle.std.proofs.Common.{◌∙◌, sym, ap, length, Ok, Result, arith}
use Rattle.message_codec.specs.declared.message.Message.{Message}
use Rattle.fee_rules.specs.declared.budget.Budget.{Budget}
use Rattle.fee_rules.specs.declared.budget.BudgetFault.{BudgetFault}
use Rattle.fee_rules.specs.Requests.{asked_of}
use Rattle.fee_rules.specs.Budgets.{budget_for, budget_in, others_in, requests_in}
use Rattle.fee_rules.proofs.Progress.{all_asked, bad, other, repeated, request}
use Rattle.fee_rules.proofs.budget.budget_of.Goals as goal
use Rattle.fee_rules.proofs.budget.budget_of.Goals.{then-calls_compute_budget+in-Some+else-has, else-calls_compute_budget}

-- the budget, where nothing is wrong
answer : Message → Result Budget BudgetFault
answer message = Ok (budget_for (asked_of (requests_in message.keys message.instructions)) (others_in message.keys message.instructions))

pub returns-in_default : goal.returns-in_default
unfolding answer budget_in
returns-in_default c = sym (rw (c.as_slice-keys.ensures, c.as_slice-instruction-items.ensures) at
    (bad c.as_slice-keys.result.now c.as_slice-instruction-items.result.now c.loop-index.index
    c.loop-index.asked c.loop-index.others c.loop-index.invariant c.instruction-item.result
    c.loop-index-test.true c.instruction-item.is
    (sym c.calls_compute_budget.ensures ∙ c.if-calls_compute_budget.true)
    (rw c.as_slice.ensures at (sym c.read_request.ensures ∙ c.in_default.is)) (answer c.args.message.now)))

pub returns-then-has : goal.returns-then-has
unfolding answer budget_in
returns-then-has c = sym (rw (c.as_slice-keys.ensures, c.as_slice-instruction-items.ensures) at
    (repeated c.as_slice-keys.result.now c.as_slice-instruction-items.result.now c.loop-index.index
    c.loop-index.asked c.loop-index.others c.loop-index.invariant c.instruction-item.result
    c.loop-index-test.true c.instruction-item.is c.in-Some.request
    (sym c.calls_compute_budget.ensures ∙ c.if-calls_compute_budget.true)
    (rw c.as_slice.ensures at (sym c.read_request.ensures ∙ c.in-Some.is)) (sym c.has.ensures ∙ c.if-has.true)
    (answer c.args.message.now)))

pub loop-index-preserved : goal.loop-index-preserved
loop-index-preserved c = elim c.if-calls_compute_budget.branch [
  | then-calls_compute_budget+in-Some+else-has w ↦ rw (w.asked-is, w.add.ensures, w.others-is)
      (request c.as_slice-keys.result.now c.as_slice-instruction-items.result.now c.loop-index.index
      c.loop-index.asked c.loop-index.others c.loop-index.invariant c.instruction-item.result
      c.loop-index-test.true c.instruction-item.is w.in-Some.request
      (sym c.calls_compute_budget.ensures ∙ w.if-calls_compute_budget.true)
      (rw w.as_slice.ensures at (sym w.read_request.ensures ∙ w.in-Some.is))
      (sym w.has.ensures ∙ w.if-has.false))
  | else-calls_compute_budget w ↦ rw (w.asked-is, w.others-is)
      (other c.as_slice-keys.result.now c.as_slice-instruction-items.result.now c.loop-index.index
      c.loop-index.asked c.loop-index.others c.loop-index.invariant c.instruction-item.result
      c.loop-index-test.true c.instruction-item.is
      (sym c.calls_compute_budget.ensures ∙ w.if-calls_compute_budget.false))
]

pub returns : goal.returns
returns c =
    let so_far = rw (c.as_slice-keys.ensures, c.as_slice-instruction-items.ensures) at c.loop-index.invariant in
    let same = ap length c.as_slice-instruction-items.ensures in
    rw c.budget_from.ensures (sym (all_asked c.args.message.now c.loop-index.index c.loop-index.asked c.loop-index.others so_far (omega arith)))

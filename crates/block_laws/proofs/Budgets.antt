-- The units of a budget fit their field.
use Rattle.std.proofs.Common.{◌≡◌, ◌^◌, ◌<◌, min, ℕ, List, [], ◌∷◌, Ok, subst, arith}
use Rattle.spec_base.specs.Reading.{first_or}
use Rattle.message_codec.specs.declared.message.Message.{Message}
use Rattle.fee_rules.specs.declared.budget.Budget.{Budget}
use Rattle.fee_rules.specs.declared.budget.BudgetFault.{BudgetFault}
use Rattle.fee_rules.specs.Budgets.{asked_budget, budget_in, faults_in}

pub limit_fits : (message : Message) (budget : Budget) → budget_in message ≡ Ok budget → budget.limit < 2 ^ 64
unfolding budget_in
limit_fits message budget e = by_faults (faults_in message.keys message.instructions) e
  where
    least : (a : ℕ) → min a 1400000 < 2 ^ 64
    least a = grind arith

    by_faults : (faults : List BudgetFault) → first_or faults (Ok (asked_budget message.keys message.instructions)) ≡ Ok budget → budget.limit < 2 ^ 64
    by_faults [] e = let same : asked_budget message.keys message.instructions ≡ budget = cc in subst (λ (b : Budget). b.limit < 2 ^ 64) same (least _)
    by_faults (fault ∷ faults) e = absurd (cc)

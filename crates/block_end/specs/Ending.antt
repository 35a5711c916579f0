-- What the end of a block rests on.
use Rattle.std.specs.Prelude.{◌≡◌, ℕ, ◌+◌, ◌<◌, ◌≤◌, ◌^◌, List, length, All}
use Rattle.sol_base.specs.Limits.{max_transactions}
use Rattle.account_store.specs.State.{State, IsState, len, sum}
use Rattle.admission.specs.declared.chosen.Chosen.{Chosen}
use Rattle.admission.specs.Batches.{IsOf}
use Rattle.bank_law.specs.Job.{Job}
use Rattle.bank_core.specs.declared.origin.Origin.{Origin}
use Rattle.bank_core.specs.Ends.{state_at_end}
use Rattle.tx_report.specs.declared.outcome.Outcome.{Outcome}
use Rattle.tx_report.specs.Outcomes.{IsSmallOutcome}
use Rattle.block_end.specs.BlockEnd.{base_fees, priority_fees}

-- what a run leaves: the accounts, and the outcome of each transaction
pub record Ran : Type 0 where
  pub accounts : State
  pub outcomes : List Outcome

-- what the run of a core with this origin leaves, with these outcomes of its positions
abbrev pub ran_of : {T : Type 0} → (T → Job) → Origin T → List Outcome → Ran
ran_of job origin outcomes = record { accounts = state_at_end job origin; outcomes = outcomes }

-- transactions of these wires, no more than a block may have
pub record AreOf (wires : List (List ℕ)) (order : List Chosen) : Type 0 where
  pub few : length order ≤ max_transactions
  pub each : All (IsOf wires) order

-- transactions of a batch, and a run of them that a block may end with: an outcome for each, all of
-- them small; fees that were taken out of the accounts; and accounts that can be counted
pub record MayEnd (wires : List (List ℕ)) (order : List Chosen) (ran : Ran) : Type 0 where
  pub of : AreOf wires order
  pub one_each : length ran.outcomes ≡ length order
  pub small : All IsSmallOutcome ran.outcomes
  pub state : IsState ran.accounts
  pub supply : sum ran.accounts + base_fees ran.outcomes + priority_fees ran.outcomes < 2 ^ 64
  pub room : len ran.accounts + 1 < 2 ^ 32

-- What is known of a transaction that runs.
use Rattle.std.specs.Prelude.{◌≡◌, Ok}
use Rattle.std.specs.List.{IsDistinct}
use Rattle.sol_base.specs.Keys.{same_key}
use Rattle.sol_base.specs.Limits.{max_transaction_keys}
use Rattle.message_codec.specs.Wire.{HasShortLists, IsCountable, message_name}
use Rattle.message_codec.specs.Roles.{HasAllLoaded, IsSane, all_keys, locks_of}
use Rattle.fee_rules.specs.Budgets.{budget_in}
use Rattle.fee_rules.specs.Fees.{fee_of}
use Rattle.admission.specs.declared.chosen.Chosen.{Chosen}

-- all that the crates that run a transaction ask of it
pub record IsChosen (chosen : Chosen) : Type 0 where
  pub sane : IsSane chosen.tx max_transaction_keys
  pub signatures : IsCountable chosen.tx.signatures
  pub lists : HasShortLists chosen.tx.message
  pub loaded : HasAllLoaded chosen.tx.message chosen.loaded
  pub apart : IsDistinct same_key (all_keys chosen.tx.message chosen.loaded)
  pub named : chosen.name ≡ message_name chosen.tx.message
  pub budgeted : budget_in chosen.tx.message ≡ Ok chosen.budget
  pub charged : chosen.fee ≡ fee_of chosen.tx.message chosen.budget
  pub locked : chosen.locks ≡ locks_of chosen.tx.message chosen.loaded

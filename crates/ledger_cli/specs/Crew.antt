-- What runs a block (the project's own).
use Rattle.std.specs.Prelude.{◌≤◌}
use Rattle.sol_base.specs.Limits.{max_lanes, max_senders}
use Rattle.ledger_cli.specs.declared.add.Crew.{Crew}

-- as many lanes and senders as there may be
pub record IsCrew (crew : Crew) : Type 0 where
  pub lanes : (1 ≤ crew.lanes) × (crew.lanes ≤ max_lanes)
  pub senders : (1 ≤ crew.senders) × (crew.senders ≤ max_senders)

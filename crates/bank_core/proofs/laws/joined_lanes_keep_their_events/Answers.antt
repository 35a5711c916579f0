use Rattle.bank_core.proofs.Lanes.{part_keeps, lane_keeps}
use Rattle.bank_core.proofs.laws.joined_lanes_keep_their_events.Goals as goal

pub returns-clause-parts : goal.returns-clause-parts
returns-clause-parts c = part_keeps

pub returns-clause-lanes : goal.returns-clause-lanes
returns-clause-lanes c = lane_keeps

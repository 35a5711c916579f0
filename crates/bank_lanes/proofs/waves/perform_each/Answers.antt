use Rattle.std.proofs.Common.{rules}
use Rattle.bank_lanes.proofs.SeatSteps.{sitting_same}
use Rattle.bank_lanes.proofs.waves.perform_each.Goals as goal

pub returns-clause-same : goal.returns-clause-same
returns-clause-same g c = sitting_same c.args.seats.now c.for_each_mut.new.s (search rules) (λ k d l. (search rules, search rules, search rules))

use Rattle.entry_laws.proofs.TotalLaws.{units_are_within_limits}
use Rattle.entry_laws.proofs.sums.units_are_within_limits.Goals as goal

pub returns : goal.returns
returns c = record { within = units_are_within_limits }

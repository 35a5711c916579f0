use Rattle.std.proofs.Common.{[], ◌∷◌, ◌++◌}
use Rattle.bank_lanes.proofs.gate.one_more.Given as goal

abbrev pub ghost-told_by : goal.ghost-told_by
ghost-told_by a = a._from.now.0.now.value ++ a._from.now.1 ∷ []

use Rattle.std.proofs.Common.{◌≡◌, ◌++◌, drop}
use Rattle.bank_core.specs.Told.{up_to_none}
use Rattle.bank_core.proofs.told.shares_of.Given as goal

-- those so far, and those that come after them
abbrev pub invariant-loop-outcome : goal.invariant-loop-outcome
invariant-loop-outcome l = l.told ++ up_to_none (drop l.outcome-index l.outcomes) ≡ up_to_none l.outcomes

use Rattle.std.proofs.Common.{◌≡◌, length}
use Rattle.std.specs.Option.{option_or}
use Rattle.ledger_store.specs.Watching.{first_unsealed}
use Rattle.ledger_store.proofs.watching.first_unsealed.Given as goal

-- those that are left, and what was found behind them
abbrev pub invariant-loop-file : goal.invariant-loop-file
invariant-loop-file g l = option_or (first_unsealed l.files) l.first ≡ first_unsealed l.fn.files

abbrev pub decreases-loop-file : goal.decreases-loop-file
decreases-loop-file g l = length l.files

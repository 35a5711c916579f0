-- Outcomes that are told before all positions are done.
use Rattle.std.specs.Prelude.{ℕ, List, [], ◌∷◌, map, Option, Some, None}
use Rattle.std.specs.List.{range_with_len}
use Rattle.tx_report.specs.declared.outcome.Outcome.{Outcome}
use Rattle.bank_law.specs.Machine.{Stage}
use Rattle.bank_core.specs.Keeping.{outcome_of}

-- those up to the first that is not there
abbrev pub up_to_none : List (Option Outcome) → List Outcome
up_to_none [] = []
up_to_none (None ∷ later) = []
up_to_none (Some outcome ∷ later) = outcome ∷ up_to_none later

-- the outcomes of positions from one on, up to the first that is not done, and at most so many
abbrev pub done_from : (ℕ → Stage) → ℕ → ℕ → List Outcome
done_from stage from most = up_to_none (map (λ i. outcome_of (stage i)) (range_with_len from most))

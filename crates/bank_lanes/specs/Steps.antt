-- How a journal grows.
use Rattle.std.specs.Prelude.{List}
use Rattle.std.specs.Prelude.{ℕ}
use mathlib.Core.List.{IsPrefix}
use Rattle.bank_law.specs.declared.event.Event.{Event}
use Rattle.bank_core.specs.Takes.{KeepsOthers}

-- by events of this lane alone
pub record GrewBy (lane : ℕ) (old new : List Event) : Type 0 where
  pub longer : IsPrefix old new
  pub others : KeepsOthers old new lane

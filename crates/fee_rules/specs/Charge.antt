-- A fee as a value.
use Rattle.std.specs.Prelude.{ℕ}

-- the two parts of a fee, in lamports
pub record Charge : Type 0 where
  pub base : ℕ
  pub priority : ℕ

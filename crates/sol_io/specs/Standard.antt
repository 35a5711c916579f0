-- A device of std, and how often it failed.
use Rattle.std.specs.Prelude.{ℕ}

pub record Counted (D : Type 0) : Type 0 where
  pub device : D
  pub faults : ℕ

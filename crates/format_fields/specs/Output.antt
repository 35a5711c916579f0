-- What an output has taken.
use Rattle.std.specs.Prelude.{ℕ, List, ◌++◌}

-- it takes these bytes after all that it has taken
pub record Adds {O : Type 0} (holds : O → List ℕ → Type 0) (old new : O) (bytes : List ℕ) : Type 0
  where
    pub after : (taken : List ℕ) → holds old taken → holds new (taken ++ bytes)

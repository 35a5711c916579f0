-- Counts that options say (the project's own).
use Rattle.std.specs.Prelude.{ℕ, ◌≤◌, List, Option, Some, None, Ok}
use Rattle.spec_base.specs.Reading.{◌>>=◌}
use Rattle.command_words.specs.Shapes.{Text}
use Rattle.command_words.specs.Arguments.{Read, Setting}
use Rattle.command_words.specs.Values.{number_given}

-- a count from 1 on
abbrev pub IsFrom1 : ℕ → ℕ → Type 0
IsFrom1 high n = (1 ≤ n) × (n ≤ high)

abbrev pub or_default : ℕ → Option ℕ → ℕ
or_default default None = default
or_default default (Some number) = number

-- the number of an option from 1 on, and what stands for it where it is left out
abbrev pub count_given : Text → ℕ → ℕ → List Setting → Read ℕ
count_given name high default settings = do
  number ← number_given name 1 high settings
  Ok (or_default default number)

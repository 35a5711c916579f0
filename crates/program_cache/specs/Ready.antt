-- A program that is ready to run.
use Rattle.std.specs.Prelude.{ℕ, List}

-- its text, and the bytes that its memory begins with: the text and then the constants
pub record ReadyImage : Type 0 where
  pub text : List ℕ
  pub bytes : List ℕ

-- What a command takes, as lists of names (the project's own).
use Rattle.std.specs.Prelude.{ℕ, Bool, false, ◌||◌, List, [], ◌∷◌, map}
use Rattle.std.specs.Str.{bytes_eq}
use Rattle.command_words.specs.declared.shape.Shape.{Shape}

abbrev pub Text : Type 0
Text = List ℕ

-- the options without a value, those with one, and the other arguments in their order
pub record Rules : Type 0 where
  pub flags : List Text
  pub options : List Text
  pub values : List Text

abbrev pub rules_of : Shape → Rules
rules_of shape = record {
  flags = map (λ n. n.now) shape.flags.now;
  options = map (λ n. n.now) shape.options.now;
  values = map (λ n. n.now) shape.values.now;
}

-- a name is one of these
abbrev pub is_among : Text → List Text → Bool
is_among name [] = false
is_among name (one ∷ more) = bytes_eq one name || is_among name more

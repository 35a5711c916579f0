-- How commands are spelled in words.
use Rattle.std.specs.Prelude.{◌≡◌, false, List, ◌∷◌, [], ◌++◌, map, Some, None}
use Rattle.std.specs.List.{flat_map, IsDistinct, AllByRecursion}
use Rattle.std.specs.Str.{bytes_eq}
use Rattle.bank_words.specs.Options.{Text, Options, number, nothing, takes, Use, is_dashed}
use Rattle.bank_words.specs.Commands.{Form, form_named}
use Rattle.bank_words.specs.declared.command.Command.{Command}

-- a use of an option as it is written: `--name value` as two words, `--name=value` as one, or
-- `--name`
pub data Written : Type 0 where
  apart : Text → Text → Written
  joined : Text → Text → Written
  alone : Text → Written

abbrev pub words_of : Written → List Text
words_of (apart name value) = (45 ∷ 45 ∷ name) ∷ value ∷ []
words_of (joined name value) = (45 ∷ 45 ∷ (name ++ 61 ∷ value)) ∷ []
words_of (alone name) = (45 ∷ 45 ∷ name) ∷ []

abbrev pub use_of : Written → Use
use_of (apart name value) = record { name = name; value = Some value }
use_of (joined name value) = record { name = name; value = Some value }
use_of (alone name) = record { name = name; value = None }

abbrev pub name_of : Written → Text
name_of written = (use_of written).name

-- the command has the option, and it takes what is written
abbrev pub Fits : Options → Written → Type 0
Fits o (apart name value) = (takes o name ≡ number) × (is_dashed value ≡ false)
Fits o (joined name value) = takes o name ≡ number
Fits o (alone name) = takes o name ≡ nothing

-- the words are the command's name and its options, in any order, each at most once
pub record IsSpelled (words : List Text) (command : Command) : Type 0 where
  pub name : Text
  pub form : Form
  pub written : List Written
  pub known : form_named name ≡ Some form
  pub spelled : words ≡ name ∷ flat_map words_of written
  pub fits : AllByRecursion (Fits form.options) written
  pub once : IsDistinct bytes_eq (map name_of written)
  pub told : form.by (map use_of written) ≡ Some command

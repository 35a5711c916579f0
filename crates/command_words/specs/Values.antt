-- The values of arguments, as texts (the project's own).
use Rattle.std.specs.Prelude.{ℕ, ◌==◌, Bool, false, not, List, [], ◌∷◌, Option, Some, None, Ok, Err, if◌then◌else◌}
use Rattle.spec_base.specs.Reading.{◌>>=◌}
use Rattle.command_parts.specs.Numbers.{number_in}
use Rattle.command_words.specs.Shapes.{Text}
use Rattle.command_words.specs.Arguments.{Read, Setting, value_in}
use Rattle.command_words.specs.declared.fault.WordsFault.TheVariants.{Range, Path, Missing}

-- a number that is in its range
abbrev pub number_by : Text → ℕ → ℕ → Text → Option ℕ → Read (Option ℕ)
number_by name low high text None = Err (Range name low high text)
number_by name low high text (Some number) = Ok (Some number)

abbrev pub number_from : Text → ℕ → ℕ → Option Text → Read (Option ℕ)
number_from name low high None = Ok None
number_from name low high (Some text) = number_by name low high text (number_in low high text)

-- the number of an option, which may be left out
abbrev pub number_given : Text → ℕ → ℕ → List Setting → Read (Option ℕ)
number_given name low high settings = number_from name low high (value_in name settings)

-- the value of an argument that the command needs
abbrev pub needed_by : Text → Option Text → Read Text
needed_by name None = Err (Missing name)
needed_by name (Some value) = Ok value

abbrev pub needed : Text → List Setting → Read Text
needed name settings = needed_by name (value_in name settings)

-- a text that names a file or a folder is not empty, and does not begin with a hyphen (45)
abbrev pub is_path : Text → Bool
is_path [] = false
is_path (first ∷ rest) = not (first == 45)

abbrev pub path_given : Text → Text → Read Text
path_given name path = if is_path path then Ok path else Err (Path name)

-- the file of an option, which may be left out
abbrev pub path_by : Text → Option Text → Read (Option Text)
path_by name None = Ok None
path_by name (Some path) = do
  file ← path_given name path
  Ok (Some file)

abbrev pub path_if_given : Text → List Setting → Read (Option Text)
path_if_given name settings = path_by name (value_in name settings)

-- the file or the folder of an argument that the command needs
abbrev pub path_needed : Text → List Setting → Read Text
path_needed name settings = do
  path ← needed name settings
  path_given name path

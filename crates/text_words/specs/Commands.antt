-- The commands for texts as words (the project's own): the name of the command, and then its options and
-- its other arguments, in any order.
use Rattle.std.specs.Prelude.{codes, List, [], ◌∷◌, Option, Some, None, Ok, Err, if◌then◌else◌}
use Rattle.std.specs.Str.{bytes_eq}
use Rattle.spec_base.specs.Reading.{◌>>=◌}
use Rattle.command_words.specs.Shapes.{Text}
use Rattle.command_words.specs.Arguments.{Read, Setting, asks_for_help, settings_in}
use Rattle.command_words.specs.Values.{path_if_given, path_needed}
use Rattle.command_words.specs.declared.fault.WordsFault.TheVariants.{Command}
use Rattle.text_words.specs.Names.{rules_of_command, text_named}
use Rattle.text_words.specs.Forms.{form_given, look_given, sought_given}
use Rattle.text_words.specs.declared.command.TextCommand.{TextCommand}
use Rattle.text_words.specs.declared.command.TextCommand.TheVariants.{Help, Version, Json, Bytes, Build, Split, View, Diff, Shape, Why}
use Rattle.text_words.specs.declared.name.TextName.{TextName}
use Rattle.text_words.specs.declared.name.TextName.TheVariants as name

unfoldable pub json_by : List Setting → Read TextCommand
json_by settings = do
  form ← form_given settings
  look ← look_given settings
  Ok (Json form look)

unfoldable pub bytes_by : List Setting → Read TextCommand
bytes_by settings = do
  form ← form_given settings
  Ok (Bytes form)

unfoldable pub build_by : List Setting → Read TextCommand
build_by settings = do
  snapshot ← path_if_given (codes "--snapshot") settings
  Ok (Build snapshot)

unfoldable pub split_by : List Setting → Read TextCommand
split_by settings = do
  first ← path_needed (codes "RECORD") settings
  second ← path_needed (codes "SNAPSHOT") settings
  Ok (Split first second)

unfoldable pub view_by : List Setting → Read TextCommand
view_by settings = do
  sought ← sought_given settings
  Ok (View sought)

unfoldable pub diff_by : List Setting → Read TextCommand
diff_by settings = do
  left ← path_needed (codes "A") settings
  right ← path_needed (codes "B") settings
  Ok (Diff left right)

unfoldable pub shape_by : List Setting → Read TextCommand
shape_by settings = do
  picture ← path_if_given (codes "--svg") settings
  Ok (Shape picture)

-- the command of a name with these settings
abbrev pub command_by : TextName → List Setting → Read TextCommand
command_by name.Json settings = json_by settings
command_by name.Bytes settings = bytes_by settings
command_by name.Build settings = build_by settings
command_by name.Split settings = split_by settings
command_by name.View settings = view_by settings
command_by name.Diff settings = diff_by settings
command_by name.Shape settings = shape_by settings
command_by name.Why settings = Ok Why

-- the command where no words follow it
abbrev pub alone : TextCommand → List Text → Read TextCommand
alone command [] = Ok command
alone command (_ ∷ _) = Err Command

abbrev pub other_named : Text → List Text → Read TextCommand
other_named word words =
    if bytes_eq (codes "--help") word then alone Help words else
    (if bytes_eq (codes "--version") word then alone Version words else Err Command)

unfoldable pub text_command : TextName → List Text → Read TextCommand
text_command command words = do
  settings ← settings_in (rules_of_command command) words
  command_by command settings

abbrev pub command_from : Option TextName → Text → List Text → Read TextCommand
command_from None word words = other_named word words
command_from (Some command) word words =
    if asks_for_help words then Ok Help else text_command command words

-- the command that the words are, or the first thing that is wrong with them
abbrev pub command_of : List Text → Read TextCommand
command_of [] = Err Command
command_of (word ∷ words) = command_from (text_named word) word words

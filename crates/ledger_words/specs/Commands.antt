-- The commands for chains as words (the project's own): `chain`, the name of the command, and then its
-- folder and its options, in any order.
use Rattle.std.specs.Prelude.{ℕ, ◌^◌, ◌-◌, codes, List, [], ◌∷◌, Option, Some, None, Ok, Err, if◌then◌else◌}
use Rattle.std.specs.Str.{bytes_eq}
use Rattle.spec_base.specs.Reading.{◌>>=◌}
use Rattle.sol_base.specs.Limits.{max_lanes, max_senders}
use Rattle.command_words.specs.Shapes.{Text}
use Rattle.command_words.specs.Arguments.{Read, Setting, asks_for_help, settings_in}
use Rattle.command_words.specs.Values.{number_given, path_needed}
use Rattle.command_words.specs.declared.fault.WordsFault.TheVariants.{Command, Missing}
use Rattle.ledger_words.specs.Names.{command_named, rules_of_command}
use Rattle.ledger_words.specs.Counts.{IsFrom1, count_given}
use Rattle.ledger_words.specs.declared.command.ChainCommand.{ChainCommand}
use Rattle.ledger_words.specs.declared.command.ChainCommand.TheVariants.{Help, Version, New, Add, State, Block, Check, List as ListBlocks, Export}
use Rattle.ledger_words.specs.declared.name.CommandName.{CommandName}
use Rattle.ledger_words.specs.declared.name.CommandName.TheVariants as name

-- how many blocks stand at most from one full state to the next, and how many where nothing is said
abbrev pub max_every : ℕ
max_every = 65536

abbrev pub default_every : ℕ
default_every = 16

-- how many blocks are replayed at once at most
abbrev pub max_jobs : ℕ
max_jobs = 64

-- the folder of a chain
abbrev pub folder_in : List Setting → Read Text
folder_in settings = path_needed (codes "DIR") settings

-- the slot of an option, which may be left out
abbrev pub slot_given : Text → List Setting → Read (Option ℕ)
slot_given option settings = number_given option 0 (2 ^ 64 - 1) settings

abbrev pub slot_needed : Option ℕ → Read ℕ
slot_needed None = Err (Missing (codes "--slot"))
slot_needed (Some slot) = Ok slot

unfoldable pub new_by : List Setting → Read ChainCommand
new_by settings = do
  every ← count_given (codes "--every") max_every default_every settings
  folder ← folder_in settings
  Ok (New folder every)

unfoldable pub add_by : List Setting → Read ChainCommand
add_by settings = do
  lanes ← count_given (codes "--lanes") max_lanes 1 settings
  senders ← count_given (codes "--senders") max_senders 1 settings
  folder ← folder_in settings
  Ok (Add folder lanes senders)

unfoldable pub state_by : List Setting → Read ChainCommand
state_by settings = do
  slot ← slot_given (codes "--slot") settings
  folder ← folder_in settings
  Ok (State folder slot)

unfoldable pub block_by : List Setting → Read ChainCommand
block_by settings = do
  given ← slot_given (codes "--slot") settings
  folder ← folder_in settings
  slot ← slot_needed given
  Ok (Block folder slot)

unfoldable pub check_by : List Setting → Read ChainCommand
check_by settings = do
  first ← slot_given (codes "--from") settings
  last ← slot_given (codes "--to") settings
  jobs ← count_given (codes "--jobs") max_jobs 1 settings
  folder ← folder_in settings
  Ok (Check folder first last jobs)

unfoldable pub list_by : List Setting → Read ChainCommand
list_by settings = do
  folder ← folder_in settings
  Ok (ListBlocks folder)

unfoldable pub export_by : List Setting → Read ChainCommand
export_by settings = do
  folder ← folder_in settings
  file ← path_needed (codes "--sqlite") settings
  Ok (Export folder file)

-- the command of a name with these settings
abbrev pub command_by : CommandName → List Setting → Read ChainCommand
command_by name.New settings = new_by settings
command_by name.Add settings = add_by settings
command_by name.State settings = state_by settings
command_by name.Block settings = block_by settings
command_by name.Check settings = check_by settings
command_by name.List settings = list_by settings
command_by name.Export settings = export_by settings

-- the command where no words follow it
abbrev pub alone : ChainCommand → List Text → Read ChainCommand
alone command [] = Ok command
alone command (_ ∷ _) = Err Command

abbrev pub other_named : Text → List Text → Read ChainCommand
other_named word words =
    if bytes_eq (codes "--help") word then alone Help words else
    (if bytes_eq (codes "--version") word then alone Version words else Err Command)

unfoldable pub folder_command : CommandName → List Text → Read ChainCommand
folder_command command words = do
  settings ← settings_in (rules_of_command command) words
  command_by command settings

abbrev pub command_from : Option CommandName → Text → List Text → Read ChainCommand
command_from None word words = other_named word words
command_from (Some command) word words =
    if asks_for_help words then Ok Help else folder_command command words

-- the command that the words are, or the first thing that is wrong with them
abbrev pub command_of : List Text → Read ChainCommand
command_of (first ∷ word ∷ words) =
    if bytes_eq first (codes "chain") then command_from (command_named word) word words
    else Err Command
command_of (first ∷ []) = Err Command
command_of [] = Err Command

-- the counts of a command are in their ranges
abbrev pub IsInRange : ChainCommand → Type 0
IsInRange (New folder every) = IsFrom1 max_every every
IsInRange (Add folder lanes senders) = IsFrom1 max_lanes lanes × IsFrom1 max_senders senders
IsInRange (Check folder first last jobs) = IsFrom1 max_jobs jobs
IsInRange Help = Unit {0}
IsInRange Version = Unit {0}
IsInRange (State folder slot) = Unit {0}
IsInRange (Block folder slot) = Unit {0}
IsInRange (ListBlocks folder) = Unit {0}
IsInRange (Export folder file) = Unit {0}

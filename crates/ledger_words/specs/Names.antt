-- The commands for chains, and what each takes (the project's own).
use Rattle.std.specs.Prelude.{codes, List, [], ◌∷◌, Option, find}
use Rattle.std.specs.Str.{bytes_eq}
use Rattle.command_words.specs.Shapes.{Rules, Text}
use Rattle.ledger_words.specs.declared.name.CommandName.{CommandName}
use Rattle.ledger_words.specs.declared.name.CommandName.TheVariants.{New, Add, State, Block, Check, List as ListBlocks, Export}

-- the word that a command is
abbrev pub word_of : CommandName → Text
word_of New = codes "new"
word_of Add = codes "add"
word_of State = codes "state"
word_of Block = codes "block"
word_of Check = codes "check"
word_of ListBlocks = codes "list"
word_of Export = codes "export"

-- the options of a command
abbrev pub options_of : CommandName → List Text
options_of New = codes "--every" ∷ []
options_of Add = codes "--lanes" ∷ codes "--senders" ∷ []
options_of State = codes "--slot" ∷ []
options_of Block = codes "--slot" ∷ []
options_of Check = codes "--from" ∷ codes "--to" ∷ codes "--jobs" ∷ []
options_of ListBlocks = []
options_of Export = codes "--sqlite" ∷ []

-- a command takes its options, each with a value, and one folder
abbrev pub rules_of_command : CommandName → Rules
rules_of_command command =
    record { flags = []; options = options_of command; values = codes "DIR" ∷ [] }

-- the command of a word, among those that have a folder
abbrev pub commands : List CommandName
commands = New ∷ Add ∷ State ∷ Block ∷ Check ∷ ListBlocks ∷ Export ∷ []

abbrev pub command_among : List CommandName → Text → Option CommandName
command_among names word = find (λ name. bytes_eq (word_of name) word) names

abbrev pub command_named : Text → Option CommandName
command_named word = command_among commands word

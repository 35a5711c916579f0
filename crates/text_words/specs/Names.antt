-- The commands for texts, and what each takes (the project's own).
use Rattle.std.specs.Prelude.{codes, List, [], ◌∷◌, Option, find}
use Rattle.std.specs.Str.{bytes_eq}
use Rattle.command_words.specs.Shapes.{Rules, Text}
use Rattle.text_words.specs.declared.name.TextName.{TextName}
use Rattle.text_words.specs.declared.name.TextName.TheVariants.{Json, Bytes, Build, Split, View, Diff, Shape, Why}

-- the word that a command is
abbrev pub word_of : TextName → Text
word_of Json = codes "json"
word_of Bytes = codes "bytes"
word_of Build = codes "build"
word_of Split = codes "split"
word_of View = codes "view"
word_of Diff = codes "diff"
word_of Shape = codes "shape"
word_of Why = codes "why"

abbrev pub taking : List Text → List Text → List Text → Rules
taking flags options values = record { flags = flags; options = options; values = values }

-- what a command takes: options without a value, options with one, and other arguments
abbrev pub rules_of_command : TextName → Rules
rules_of_command Json = taking (codes "--pretty" ∷ codes "--shown" ∷ []) [] (codes "FORM" ∷ [])
rules_of_command Bytes = taking [] [] (codes "FORM" ∷ [])
rules_of_command Build = taking [] (codes "--snapshot" ∷ []) []
rules_of_command Split = taking [] [] (codes "RECORD" ∷ codes "SNAPSHOT" ∷ [])
rules_of_command View = taking [] [] (codes "KEY|SIGNATURE" ∷ [])
rules_of_command Diff = taking [] [] (codes "A" ∷ codes "B" ∷ [])
rules_of_command Shape = taking [] (codes "--svg" ∷ []) []
rules_of_command Why = taking [] [] []

-- the command of a word
abbrev pub commands : List TextName
commands = Json ∷ Bytes ∷ Build ∷ Split ∷ View ∷ Diff ∷ Shape ∷ Why ∷ []

abbrev pub command_among : List TextName → Text → Option TextName
command_among names word = find (λ name. bytes_eq (word_of name) word) names

abbrev pub text_named : Text → Option TextName
text_named word = command_among commands word

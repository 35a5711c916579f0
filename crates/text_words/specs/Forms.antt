-- The values of arguments: forms, keys and signatures (the project's own).
use Rattle.std.specs.Prelude.{ℕ, Bool, true, false, is_some, List, Option, Some, None, codes, if◌then◌else◌, Result, Ok, Err}
use Rattle.std.specs.Str.{bytes_eq}
use Rattle.hex.specs.Hex.{decode_sized}
use Rattle.hex.specs.declared.error.FromHexError.{FromHexError}
use Rattle.spec_base.specs.Reading.{◌>>=◌}
use Rattle.command_words.specs.Shapes.{Text}
use Rattle.command_words.specs.Arguments.{Read, Setting, value_in}
use Rattle.command_words.specs.Values.{needed}
use Rattle.command_words.specs.declared.fault.WordsFault.TheVariants.{Form as NoForm, Excluded}
use Rattle.text_words.specs.declared.command.Form.{Form}
use Rattle.text_words.specs.declared.command.Form.TheVariants.{Snapshot, Batch, Record, Image}
use Rattle.text_words.specs.declared.command.Look.{Look}
use Rattle.text_words.specs.declared.command.Look.TheVariants.{Compact, Pretty, Shown}
use Rattle.text_words.specs.declared.command.Sought.{Sought}
use Rattle.text_words.specs.declared.command.Sought.TheVariants.{Account, Transaction}

-- a value that has the form which its name asks for
abbrev pub in_form : {X : Type 0} → Text → Text → Option X → Read X
in_form name word None = Err (NoForm name word)
in_form name word (Some value) = Ok value

abbrev pub form_named : Text → Option Form
form_named word =
    if bytes_eq (codes "snapshot") word then Some Snapshot else
    (if bytes_eq (codes "batch") word then Some Batch else
    (if bytes_eq (codes "record") word then Some Record else
    (if bytes_eq (codes "image") word then Some Image else None)))

-- the form that the argument FORM says
abbrev pub form_given : List Setting → Read Form
form_given settings = do
  word ← needed (codes "FORM") settings
  in_form (codes "FORM") word (form_named word)

-- by whether `--pretty` and `--shown` are given, which exclude each other
abbrev pub look_by : Bool → Bool → Read Look
look_by false false = Ok Compact
look_by true false = Ok Pretty
look_by false true = Ok Shown
look_by true true = Err (Excluded (codes "--shown"))

abbrev pub look_given : List Setting → Read Look
look_given settings =
    look_by (is_some (value_in (codes "--pretty") settings)) (is_some (value_in (codes "--shown") settings))

-- by what the digits decode to, as 32 bytes and as 64
abbrev pub sought_by : Result (List ℕ) FromHexError → Result (List ℕ) FromHexError → Option Sought
sought_by (Ok key) _ = Some (Account (record { 0 = key }))
sought_by (Err _) (Ok signature) = Some (Transaction signature)
sought_by (Err _) (Err _) = None

-- 64 hexadecimal digits are a key, 128 a signature
abbrev pub sought_in : Text → Option Sought
sought_in word = sought_by (decode_sized word 32) (decode_sized word 64)

-- what `view` looks for
abbrev pub sought_given : List Setting → Read Sought
sought_given settings = do
  word ← needed (codes "KEY|SIGNATURE") settings
  in_form (codes "KEY|SIGNATURE") word (sought_in word)

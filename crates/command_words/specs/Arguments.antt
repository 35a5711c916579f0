-- The arguments behind a command's name, as words (the project's own): options and values in any order,
-- each at most once. An option with a value is `--name value`, two words, or `--name=value`, one.
use Rattle.std.specs.Prelude.{ℕ, ◌==◌, Bool, false, codes, is_some, List, [], ◌∷◌, ◌++◌, length, nat_lt, Option, Some, None, option_map, Result, Ok, Err, if◌then◌else◌}
use Rattle.std.specs.Borrow.{Bor}
use Rattle.std.specs.List.{before_first, after_first, position_or_len}
use Rattle.std.specs.Str.{bytes_eq}
use Rattle.spec_base.specs.Reading.{◌>>=◌}
use Rattle.command_words.specs.Shapes.{Text, Rules, is_among}
use Rattle.command_words.specs.declared.arguments.Argument.{Argument}
use Rattle.command_words.specs.declared.fault.WordsFault.{WordsFault}
use Rattle.command_words.specs.declared.fault.WordsFault.TheVariants.{Unknown, Repeated, NoValue, Valued, Surplus}

abbrev pub Read : Type 0 → Type 0
Read value = Result value WordsFault

-- a name with its value
abbrev pub Setting : Type 0
Setting = Text × Text

-- what an argument sets
abbrev pub setting_of : Argument → Setting
setting_of argument = (argument.name.now, argument.value.now)

-- the value that a name is set to
abbrev pub value_in : Text → List Setting → Option Text
value_in name [] = None
value_in name (setting ∷ settings) =
    if bytes_eq setting.0 name then Some setting.1 else value_in name settings

-- the first of the names that is not set
abbrev pub free_name : List Setting → List Text → Option Text
free_name settings [] = None
free_name settings (name ∷ names) =
    if is_some (value_in name settings) then free_name settings names else Some name

-- a byte is `=` (61)
abbrev pub is_equals : ℕ → Bool
is_equals c = c == 61

-- a word has one
abbrev pub has_equals : Text → Bool
has_equals word = nat_lt (position_or_len is_equals word) (length word)

-- what stands before the first `=` of a word, and what stands behind it, where there is one
abbrev pub parted : Text → Text × Option Text
parted word =
    if has_equals word then (before_first is_equals word, Some (after_first is_equals word))
    else (word, None)

-- a word that begins with a hyphen (45) is an option
abbrev pub is_option : Text → Bool
is_option [] = false
is_option (first ∷ rest) = first == 45

-- a name, and its value where it has come
abbrev pub Start : Type 0
Start = Text × Option Text

abbrev pub start_seen : Bor Text × Option (Bor Text) → Start
start_seen start = (start.0.now, option_map (λ v. v.now) start.1)

-- a name is set once
abbrev pub once : List Setting → Text → Option Text → Read Start
once settings name value =
    if is_some (value_in name settings) then Err (Repeated name) else Ok (name, value)

-- an option without a value
abbrev pub flag_start : List Setting → Text → Option Text → Read Start
flag_start settings name None = once settings name (Some [])
flag_start settings name (Some value) = Err (Valued name)

-- a word that is an option of the command
abbrev pub option_start : Rules → List Setting → Start → Read Start
option_start rules settings (name, value) =
    if is_among name rules.flags then flag_start settings name value else
    (if is_among name rules.options then once settings name value else Err (Unknown name))

-- a word that is no option has the first name of a value that is not set
abbrev pub named_value : Text → Option Text → Read Start
named_value word None = Err (Surplus word)
named_value word (Some name) = Ok (name, Some word)

abbrev pub value_start : List Text → List Setting → Text → Read Start
value_start names settings word = named_value word (free_name settings names)

-- what a word starts: an option, or a value
abbrev pub start_of : Rules → List Setting → Text → Read Start
start_of rules settings word =
    if is_option word then option_start rules settings (parted word)
    else value_start rules.values settings word

-- a word where an option waits for its value, or where none does
abbrev pub next_of : Rules → List Setting → Option Text → Text → Read Start
next_of rules settings None word = start_of rules settings word
next_of rules settings (Some option) word = Ok (option, Some word)

-- the settings with one more, where its value has come
abbrev pub with_start : List Setting → Start → List Setting
with_start settings (name, None) = settings
with_start settings (name, Some value) = settings ++ (name, value) ∷ []

-- the option that waits for its value
abbrev pub waits_of : Start → Option Text
waits_of (name, None) = Some name
waits_of (name, Some value) = None

abbrev pub ended : List Setting → Option Text → Read (List Setting)
ended settings None = Ok settings
ended settings (Some option) = Err (NoValue option)

-- the settings so far and those of the words; an option may wait for its value
abbrev pub settings_after : Rules → List Setting → Option Text → List Text → Read (List Setting)
settings_after rules settings waits [] = ended settings waits
settings_after rules settings waits (word ∷ words) = do
  start ← next_of rules settings waits word
  settings_after rules (with_start settings start) (waits_of start) words

-- the settings of the words
abbrev pub settings_in : Rules → List Text → Read (List Setting)
settings_in rules words = settings_after rules [] None words

-- the words behind a command's name ask for help
abbrev pub asks_for_help : List Text → Bool
asks_for_help (word ∷ []) = bytes_eq word (codes "--help")
asks_for_help _ = false

-- What reading words answers, and what is made of what `clap` found.
use Rattle.std.specs.Prelude.{◌≡◌, Bool, false, not, ◌||◌, is_some, codes, Option, Some, None, if◌then◌else◌}
use Rattle.std.specs.Str.{bytes_eq}
use Rattle.std.specs.Option.{option_map_or}
use Rattle.clap.specs.Lexer.{long_of}
use Rattle.clap.specs.Matches.{first_value}
use Rattle.clap.specs.declared.parser.matches.Found.{Found}
use Rattle.clap.specs.declared.error.kind.ErrorKind.{ErrorKind}
use Rattle.clap.specs.declared.error.kind.ErrorKind.TheVariants as kind
use Rattle.bank_words.specs.Options.{Text, is_dashed}
use Rattle.bank_words.specs.Commands.{produce_from, replay_from, make_from}
use Rattle.bank_words.specs.declared.command.Command.{Command}
use Rattle.bank_words.specs.declared.command.Command.TheVariants.{Show, Assemble, List as ListImage}
use Rattle.bank_words.specs.declared.command.WordsFault.{WordsFault}
use Rattle.bank_words.specs.declared.command.WordsFault.TheVariants.{Refused, OutOfMemory}

-- words are refused only where they are no command; out of memory is free
abbrev pub Explains : WordsFault → Option Command → Type 0
Explains Refused command = command ≡ None
Explains OutOfMemory command = Unit {0}

abbrev pub fault_of_kind : ErrorKind → WordsFault
fault_of_kind kind.OutOfMemory = OutOfMemory
fault_of_kind _ = Refused

-- `clap` reads the word as an option `--..` or as a value, and in no other way: not as `-`, `--` or
-- `-x`
abbrev pub is_plain : Text → Bool
is_plain word = is_some (long_of word) || not (is_dashed word)

-- the commands by what was found
abbrev pub produce_found : Found → Option Command
produce_found f = produce_from (first_value f (codes "lanes")) (first_value f (codes "senders"))

abbrev pub replay_found : Found → Option Command
replay_found f = replay_from (first_value f (codes "lanes"))

-- the flag was used
abbrev pub runs : Found → Bool
runs f = option_map_or (λ t. bytes_eq t (codes "true")) (first_value f (codes "run")) false

abbrev pub make_found : Found → Option Command
make_found f =
    make_from (first_value f (codes "number")) (first_value f (codes "count")) (runs f)
    (first_value f (codes "lanes"))

abbrev pub command_named : Text → Option Command → Option Command → Option Command → Option Command
command_named name produce replay make =
    if bytes_eq (codes "produce") name then produce else
    (if bytes_eq (codes "replay") name then replay else
    (if bytes_eq (codes "show") name then Some Show else
    (if bytes_eq (codes "make") name then make else
    (if bytes_eq (codes "asm") name then Some Assemble else
    (if bytes_eq (codes "list") name then Some ListImage else None)))))

abbrev pub command_found : Text → Found → Option Command
command_found name f = command_named name (produce_found f) (replay_found f) (make_found f)

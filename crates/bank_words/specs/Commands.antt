-- Words in form: a command, and after it its options, each at most once, with numbers in their
-- ranges.
use Rattle.std.specs.Prelude.{ℕ, ◌≤◌, Bool, List, [], ◌∷◌, Option, Some, None, option_map, option_and_then, find, codes}
use Rattle.std.specs.Str.{bytes_eq}
use Rattle.sol_base.specs.Limits.{max_lanes, max_senders, max_transactions}
use Rattle.bank_words.specs.Options.{Text, Options, Use, has_use, given, uses_in}
use Rattle.bank_words.specs.Numbers.{lanes_in, senders_in, seed_in, count_in}
use Rattle.bank_words.specs.declared.command.Command.{Command}
use Rattle.bank_words.specs.declared.command.Command.TheVariants.{Produce, Replay, Show, Make, Assemble, List as ListImage}

abbrev pub no_options : Options
no_options = record { numbers = []; flags = [] }

abbrev pub produce_options : Options
produce_options = record { numbers = codes "lanes" ∷ codes "senders" ∷ []; flags = [] }

abbrev pub replay_options : Options
replay_options = record { numbers = codes "lanes" ∷ []; flags = [] }

abbrev pub make_options : Options
make_options =
    record {
      numbers = codes "number" ∷ codes "count" ∷ codes "lanes" ∷ [];
      flags = codes "run" ∷ [];
    }

-- the commands by the texts of their numbers
abbrev pub produce_from : Option Text → Option Text → Option Command
produce_from lanes senders =
    option_and_then (λ l. option_map (λ s. Produce l s) (senders_in senders)) (lanes_in lanes)

abbrev pub replay_from : Option Text → Option Command
replay_from lanes = option_map (λ l. Replay l) (lanes_in lanes)

abbrev pub make_from : Option Text → Option Text → Bool → Option Text → Option Command
make_from seed count run lanes =
    option_and_then
    (λ n. option_and_then (λ c. option_map (λ l. Make n c run l) (lanes_in lanes))
    (count_in count)) (seed_in seed)

-- the commands by the uses of their options
abbrev pub produce_by : List Use → Option Command
produce_by uses = produce_from (given (codes "lanes") uses) (given (codes "senders") uses)

abbrev pub replay_by : List Use → Option Command
replay_by uses = replay_from (given (codes "lanes") uses)

abbrev pub make_by : List Use → Option Command
make_by uses =
    make_from (given (codes "number") uses) (given (codes "count") uses)
    (has_use (codes "run") uses) (given (codes "lanes") uses)

-- the form of a command: its name, its options, and what it is by their uses
pub record Form : Type 0 where
  pub name : Text
  pub options : Options
  pub by : List Use → Option Command

abbrev pub forms : List Form
forms =
    record { name = codes "produce"; options = produce_options; by = produce_by } ∷
    record { name = codes "replay"; options = replay_options; by = replay_by } ∷
    record { name = codes "show"; options = no_options; by = λ _. Some Show } ∷
    record { name = codes "make"; options = make_options; by = make_by } ∷
    record { name = codes "asm"; options = no_options; by = λ _. Some Assemble } ∷
    record { name = codes "list"; options = no_options; by = λ _. Some ListImage } ∷ []

abbrev pub form_named : Text → Option Form
form_named name = find (λ form. bytes_eq form.name name) forms

abbrev pub command_by : List Text → Option Form → Option Command
command_by words None = None
command_by words (Some form) = option_and_then form.by (uses_in form.options words)

-- the command that the words are, or None where they are not in form
abbrev pub command_in : List Text → Option Command
command_in [] = None
command_in (name ∷ words) = command_by words (form_named name)

abbrev pub IsFrom : ℕ → ℕ → ℕ → Type 0
IsFrom low high n = (low ≤ n) × (n ≤ high)

-- the numbers of a command are in their ranges
abbrev pub IsInRange : Command → Type 0
IsInRange (Produce lanes senders) = IsFrom 1 max_lanes lanes × IsFrom 1 max_senders senders
IsInRange (Replay lanes) = IsFrom 1 max_lanes lanes
IsInRange (Make number count run lanes) = IsFrom 1 max_transactions count × IsFrom 1 max_lanes lanes
IsInRange _ = Unit {0}

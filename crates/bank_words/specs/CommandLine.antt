-- The command line as `clap` has it: one level of subcommands with their options.
use Rattle.std.specs.Prelude.{[], Some, codes, true}
use Rattle.clap.specs.Walk.{Rule}
use Rattle.clap.specs.Simple.{App, new_app, new_rule, with_rule, with_subcommand}
use Rattle.clap.specs.declared.builder.action.ArgAction.TheVariants.{SetTrue}
use Rattle.bank_words.specs.Options.{Text}

-- an option that takes a value, and a flag
abbrev pub value_rule : Text → Rule
value_rule name = record (new_rule name) { long = Some name }

abbrev pub flag_rule : Text → Rule
flag_rule name = record (new_rule name) { long = Some name; action = Some SetTrue }

abbrev pub produce_app : App
produce_app =
    with_rule (with_rule (new_app (codes "produce")) (value_rule (codes "lanes")))
    (value_rule (codes "senders"))

abbrev pub replay_app : App
replay_app = with_rule (new_app (codes "replay")) (value_rule (codes "lanes"))

abbrev pub make_app : App
make_app = with_rule
    (with_rule (with_rule (with_rule (new_app (codes "make")) (value_rule (codes "number")))
    (value_rule (codes "count"))) (value_rule (codes "lanes"))) (flag_rule (codes "run"))

-- the top command: it has no name among the words, and answers no help
abbrev pub top_app : App
top_app = record {
  top = record (new_app (codes "bank")).top {
    no_binary_name = true;
    disable_help_flag = true;
    disable_help_subcommand = true;
    subcommand_required = true;
  };
  subs = [];
}

-- the app with one more subcommand
abbrev pub with_simple : App → App → App
with_simple app sub = with_subcommand app sub.top

abbrev pub block_commands_app : App
block_commands_app = with_simple (with_simple (with_simple top_app produce_app) replay_app)
    (new_app (codes "show"))

abbrev pub bank_app : App
bank_app = with_simple (with_simple (with_simple block_commands_app make_app) (new_app (codes "asm")))
    (new_app (codes "list"))

-- One word of a command's options, as `clap` takes it.
use Rattle.std.proofs.Common.{◌≡◌, [], ◌∷◌, true, false, Option, Some, None, refl}
use Rattle.std.specs.Str.{bytes_eq}
use Rattle.std.proofs.lemmas.Slice.Eq.{bytes_eq-Decides}
use Rattle.std.proofs.lemmas.Bool.{false_from_ne_true}
use Rattle.clap.specs.Lexer.{long_of}
use Rattle.clap.specs.Kinds.{or_else}
use Rattle.clap.specs.Walk.{Held, Waiting, idle, option, positional, Walk, walked}
use Rattle.clap.specs.Walk.{arg_by_long, long_word, after_step}
use Rattle.clap.specs.Faults.{turn_fault, long_fault, step_fault}
use Rattle.clap.specs.Simple.{Shape}
use Rattle.bank_words.specs.Options.{Text, Options}
use Rattle.bank_words.proofs.Rules.{rules_of}

-- a built subcommand with these options
abbrev pub leaf : Text → Options → Shape
leaf name o = record {
  name = name;
  aliases = [];
  rules = rules_of o;
  is_plain = true;
  is_leaf = true;
  no_binary_name = true;
  disable_help_flag = true;
  disable_help_subcommand = true;
  disable_version_flag = false;
  propagate_version = false;
  has_version = false;
  has_long_version = false;
  args_override_self = false;
  arg_required_else_help = false;
  subcommand_required = false;
  subcommand_negates_reqs = false;
  is_built = true;
}

-- where the walk stands before a word
abbrev pub stands : Held → Waiting → Walk
stands h waiting = record { held = h; waiting = waiting; position = 1; is_trailing = false; stopped = None }

lone : (word : Text) → word ≡ 45 ∷ 45 ∷ [] → long_of word ≡ None
lone word e = rw e refl

pub not_lone : (word : Text) (p : Text × Option Text) → long_of word ≡ Some p → bytes_eq word (45 ∷ 45 ∷ []) ≡ false
not_lone word p h = false_from_ne_true _ (λ e. absurd (cc (lone word ((bytes_eq-Decides word (45 ∷ 45 ∷ [])).0 e), h)))

-- a word `--name` or `--name=value`
pub long_turn : (name : Text) (o : Options) (h : Held) (waiting : Waiting) (word x : Text) (v : Option Text) → long_of word ≡ Some (x, v)
    → (turn_fault (leaf name o) [] (stands h waiting) word
    ≡ or_else (long_fault (rules_of o) false (arg_by_long (rules_of o) x) v h) (step_fault (leaf name o) 1 (long_word (rules_of o) waiting word x v h).0 (long_word (rules_of o) waiting word x v h).1))
    × (walked (rules_of o) [] (stands h waiting) word
    ≡ after_step (rules_of o) word (stands h waiting) (long_word (rules_of o) waiting word x v h).0 (long_word (rules_of o) waiting word x v h).1)
unfolding walked
long_turn name o h idle word x v e = (rw (not_lone word (x, v) e, e) refl, rw (not_lone word (x, v) e, e) refl)
long_turn name o h (option id) word x v e = (rw (not_lone word (x, v) e, e) refl, rw (not_lone word (x, v) e, e) refl)
long_turn name o h positional word x v e = (rw (not_lone word (x, v) e, e) refl, rw (not_lone word (x, v) e, e) refl)

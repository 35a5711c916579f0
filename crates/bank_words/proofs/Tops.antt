-- The whole command line: its faults, and the subcommand with its rows.
use Rattle.std.proofs.Common.{◌≡◌, ◌==◌, List, [], ◌∷◌, true, false, Option, Some, None, refl, ap, ap₂, ◌∙◌, is_some, codes}
use Rattle.std.specs.Prelude.{fold, find}
use Rattle.std.specs.Str.{bytes_eq}
use Rattle.clap.specs.Lexer.{long_of}
use Rattle.clap.specs.Kinds.{Kinds, or_else}
use Rattle.clap.specs.Walk.{Names, idle, Walk, walk, walked, walk_from, settled, nothing_held, rows_after, finished, answers_to, subcommand_met}
use Rattle.clap.specs.Faults.{turn_fault, walk_fault, settle_fault, defaults_fault, check_fault, level_fault, fault_of, entered_fault}
use Rattle.clap.specs.Simple.{Shape, built, subcommand_of, names_of, entered, label_of}
use Rattle.bank_words.specs.Options.{Text, Options, is_dashed}
use Rattle.bank_words.specs.CommandLine.{bank_app}
use Rattle.bank_words.specs.Reading.{is_plain}
use Rattle.bank_words.proofs.Rules.{rules_of}
use Rattle.bank_words.proofs.Turns.{leaf, not_lone}
use Rattle.bank_words.proofs.Uses.{IsFault, fault_first, not_dashed, short_none}
use Rattle.bank_words.proofs.Levels.{stopped, stopped_fault}

abbrev top : Shape
top = (built bank_app).top

abbrev pub names : Names
names = names_of (built bank_app)

-- the faults by the walk over the first level
abbrev by_walk : Kinds → Walk → Kinds
by_walk faults w = or_else faults
    (or_else (entered_fault (built bank_app) w.stopped)
    (or_else (settle_fault [] false w.held)
    (or_else (defaults_fault (settled [] w.held).rows [])
    (check_fault top (finished [] w.held) (is_some (entered (built bank_app) w.stopped))))))

-- the name of a subcommand
pub record Enters (name : Text) (o : Options) : Type 0 where
  pub met : subcommand_met names idle name ≡ Some name
  pub found : find (λ (s : Shape). answers_to name (label_of s)) (built bank_app).subs ≡ Some (leaf name o)
  pub no_help : bytes_eq name (codes "help") ≡ false

first_word : (name : Text) → subcommand_met names idle name ≡ Some name → walked [] names (walk_from nothing_held) name ≡ record (walk_from nothing_held) { stopped = Some (name, []) }
unfolding walked
first_word name met = rw met refl

first_turn : (name : Text) → subcommand_met names idle name ≡ Some name → bytes_eq name (codes "help") ≡ false → turn_fault top names (walk_from nothing_held) name ≡ []
first_turn name met no_help = rw (met, no_help) refl

whole_walk : (name : Text) (rest : List Text) → subcommand_met names idle name ≡ Some name → walk [] names nothing_held (name ∷ rest) ≡ record (walk_from nothing_held) { stopped = Some (name, rest) }
whole_walk name rest met = ap (λ (w : Walk). fold (walked [] names) w rest) (first_word name met) ∙ stopped [] names (walk_from nothing_held) name [] rest

whole_faults : (name : Text) (rest : List Text) → subcommand_met names idle name ≡ Some name → bytes_eq name (codes "help") ≡ false → walk_fault top names (walk_from nothing_held) (name ∷ rest) ≡ []
unfolding walk_fault
whole_faults name rest met no_help = ap₂ or_else (first_turn name met no_help)
    (ap (λ (w : Walk). walk_fault top names w rest) (first_word name met)
    ∙ stopped_fault top names (walk_from nothing_held) (name, []) rest)

or_else_none : (a : Kinds) → or_else a [] ≡ a
or_else_none [] = refl
or_else_none (k ∷ ks) = refl

entered_end : (name : Text) (o : Options) (rest : List Text)
    → find (λ (s : Shape). answers_to name (label_of s)) (built bank_app).subs ≡ Some (leaf name o)
    → by_walk [] (record (walk_from nothing_held) { stopped = Some (name, rest) })
    ≡ level_fault (leaf name o) [] nothing_held rest false []
unfolding defaults_fault
entered_end name o rest found = rw found (or_else_none _)

pub entered_faults : (name : Text) (o : Options) (rest : List Text) → Enters name o → fault_of bank_app (name ∷ rest) ≡ level_fault (leaf name o) [] nothing_held rest false []
entered_faults name o rest e = ap₂ by_walk (whole_faults name rest e.met e.no_help) (whole_walk name rest e.met) ∙ entered_end name o rest e.found

pub entered_rows : (name : Text) (o : Options) (rest : List Text) → Enters name o → subcommand_of bank_app (name ∷ rest) ≡ Some (name, rows_after (rules_of o) [] rest)
entered_rows name o rest e = ap (λ (w : Walk). entered (built bank_app) w.stopped) (whole_walk name rest e.met) ∙ rw e.found refl

-- no subcommand has the name
pub unmet : (name : Text) (rest : List Text) → is_plain name ≡ true → subcommand_met names idle name ≡ None → IsFault (fault_of bank_app (name ∷ rest))
unfolding walk_fault
unmet name rest read none = fault_first (walk_fault top names (walk_from nothing_held) (name ∷ rest)) _
    (fault_first (turn_fault top names (walk_from nothing_held) name) _ (by_form (long_of name) refl))
  where
    plain : (word : Text) → is_dashed word ≡ false → subcommand_met names idle word ≡ None → IsFault (turn_fault top names (walk_from nothing_held) word)
    plain [] d n = tt
    plain (b ∷ bs) d n = let f : (b == 45) ≡ false = d in rw (n, f, short_none b bs f) tt

    by_form : (p : Option (Text × Option Text)) → long_of name ≡ p → IsFault (turn_fault top names (walk_from nothing_held) name)
    by_form None e = plain name (not_dashed name read e) none
    by_form (Some p) e = rw (none, not_lone name p e, e) tt

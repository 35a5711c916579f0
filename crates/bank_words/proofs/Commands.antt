-- What `clap` answers to words is whether they are in form, and which command they are.
use Rattle.std.proofs.Common.{◌≡◌, List, [], ◌∷◌, ◌++◌, Bool, true, false, ◌&&◌, Option, Some, None, refl, sym, ap, ap₂, ◌∙◌, map, codes, inl, inr, ◌⊎◌}
use Rattle.std.specs.Prelude.{find, option_and_then, option_map}
use Rattle.std.specs.List.{list_all}
use Rattle.std.specs.Str.{bytes_eq}
use Rattle.std.proofs.lemmas.Slice.Eq.{bytes_eq-Decides}
use Rattle.std.proofs.lemmas.Bool.{and_parts}
use Rattle.clap.specs.Lexer.{long_of}
use Rattle.clap.specs.Kinds.{Kinds}
use Rattle.clap.specs.Matches.{first_value}
use Rattle.clap.specs.declared.parser.matches.Found.{Found}
use Rattle.clap.specs.Walk.{Row, rows_of, rows_after, first_of, nothing_held, subcommand_met, idle}
use Rattle.clap.specs.Faults.{fault_of, level_fault}
use Rattle.clap.specs.Simple.{subcommand_of}
use Rattle.clap.proofs.WalkLemmas.{first_value-rows}
use Rattle.bank_words.specs.CommandLine.{bank_app}
use Rattle.std.specs.Borrow.{Bor}
use Rattle.std.specs.Prelude.{Box}
use Rattle.std.specs.Box.{box_value}
use Rattle.clap.specs.Kinds.{IsAmong}
use Rattle.clap.specs.Matches.{found_of}
use Rattle.clap.specs.Simple.{subcommand_rows}
use Rattle.clap.specs.declared.error.kind.ErrorKind.{ErrorKind}
use Rattle.clap.specs.declared.error.kind.ErrorKind.TheVariants as kind
use Rattle.clap.specs.declared.parser.matches.SubCommand.{SubCommand}
use Rattle.clap.specs.declared.parser.matches.ArgMatches.TheViews.{out-SubCommand}
use Rattle.clap.specs.Faults.{is_simple_and_free}
use Rattle.clap.specs.Simple.{App, HasMatchesOf, subcommand_rows_of}
use Rattle.clap.specs.Matches.{subcommand_name_of}
use Rattle.clap.specs.declared.parser.matches.ArgMatches.{ArgMatches}
use Rattle.clap.specs.declared.parser.matches.ArgMatches.TheViews.{out-ArgMatches}
use Rattle.bank_words.specs.Reading.{Explains, fault_of_kind, is_plain, command_found}
use Rattle.bank_words.specs.Options.{Text, Options, Takes, number, nothing, unknown, takes, Use, is_dashed, uses_after, uses_in, more, has_use, word_uses, option_uses, given}
use Rattle.bank_words.specs.Commands.{no_options, produce_options, replay_options, make_options, command_in, command_by, forms, Form, produce_from, replay_from, make_from, produce_by, replay_by, make_by}
use Rattle.bank_words.specs.declared.command.Command.{Command}
use Rattle.bank_words.proofs.Rules.{rules_of}
use Rattle.bank_words.proofs.Turns.{leaf}
use Rattle.bank_words.proofs.Uses.{IsFault}
use Rattle.bank_words.proofs.Levels.{bank_is_simple, LevelEnds, level, nothing_given, with_defaults}
use Rattle.bank_words.proofs.Tops.{Enters, entered_faults, entered_rows, unmet, names}
use Rattle.bank_words.proofs.Found.{AreUses, are_uses, reads_given, reads_run, is_set}

-- ---- words that are read in no way

more_none : (uses : List Use) (u : Use) (next : List Use → Option (List Use)) → ((us : List Use) → next us ≡ None) → more uses u next ≡ None
more_none uses u next none = go (has_use u.name uses) refl
  where
    go : (b : Bool) → has_use u.name uses ≡ b → more uses u next ≡ None
    go true e = rw e refl
    go false e = rw e (none (uses ++ u ∷ []))

abbrev AllNone : Options → List Text → Type 0
AllNone o words = (uses : List Use) (p : Option Text) → uses_after o uses p words ≡ None

none_after : (o : Options) (word : Text) (words : List Text) → AllNone o words → AllNone o (word ∷ words)
none_after o word words none uses None = by_form (long_of word)
  where
    by_option : (x : Text) (v : Option Text) (t : Takes) → option_uses t x v uses (λ us p. uses_after o us p words) ≡ None
    by_option x (Some value) number = more_none uses (record { name = x; value = Some value }) (λ us. uses_after o us None words) (λ us. none us None)
    by_option x None number = none uses (Some x)
    by_option x (Some value) nothing = refl
    by_option x None nothing = more_none uses (record { name = x; value = None }) (λ us. uses_after o us None words) (λ us. none us None)
    by_option x v unknown = refl

    by_form : (p : Option (Text × Option Text)) → word_uses o p uses (λ us q. uses_after o us q words) ≡ None
    by_form None = refl
    by_form (Some p) = by_option p.0 p.1 (takes o p.0)
none_after o word words none uses (Some n) = by_dash (is_dashed word) refl
  where
    by_dash : (b : Bool) → is_dashed word ≡ b → uses_after o uses (Some n) (word ∷ words) ≡ None
    by_dash true e = rw e refl
    by_dash false e = rw e (more_none uses (record { name = n; value = Some word }) (λ us. uses_after o us None words) (λ us. none us None))

unread : (word : Text) → is_plain word ≡ false → (long_of word ≡ None) × (is_dashed word ≡ true)
unread word e = go (long_of word) refl (is_dashed word) refl
  where
    go : (p : Option (Text × Option Text)) → long_of word ≡ p → (b : Bool) → is_dashed word ≡ b → (long_of word ≡ None) × (is_dashed word ≡ true)
    go None f true d = (f, d)
    go None f false d = absurd (cc (rw (f, d) at e))
    go (Some p) f b d = absurd (cc (rw f at e))

none_here : (o : Options) (word : Text) (words : List Text) → is_plain word ≡ false → AllNone o (word ∷ words)
none_here o word words e uses None = rw (unread word e).0 refl
none_here o word words e uses (Some n) = rw (unread word e).1 refl

pub none_read : (o : Options) (words : List Text) → list_all is_plain words ≡ false → AllNone o words
none_read o [] e = absurd (cc)
none_read o (word ∷ words) e = go (none_read o words) (is_plain word) refl
  where
    go : (list_all is_plain words ≡ false → AllNone o words) → (b : Bool) → is_plain word ≡ b → AllNone o (word ∷ words)
    go rest true r = none_after o word words (rest (rw r at e))
    go rest false r = none_here o word words r

-- ---- the names

-- which of the commands a name is
pub data Named (name : Text) : Type 0 where
  is_produce : name ≡ codes "produce" → Named name
  is_replay : name ≡ codes "replay" → Named name
  is_show : name ≡ codes "show" → Named name
  is_make : name ≡ codes "make" → Named name
  is_asm : name ≡ codes "asm" → Named name
  is_list : name ≡ codes "list" → Named name
  is_other : bytes_eq (codes "produce") name ≡ false → bytes_eq (codes "replay") name ≡ false
      → bytes_eq (codes "show") name ≡ false → bytes_eq (codes "make") name ≡ false
      → bytes_eq (codes "asm") name ≡ false → bytes_eq (codes "list") name ≡ false → Named name

same : (text name : Text) → bytes_eq text name ≡ true → name ≡ text
same text name e = sym ((bytes_eq-Decides text name).0 e)

pub named : (name : Text) → Named name
named name = produce (bytes_eq (codes "produce") name) refl
  where
    last : (f1 : bytes_eq (codes "produce") name ≡ false) (f2 : bytes_eq (codes "replay") name ≡ false)
        (f3 : bytes_eq (codes "show") name ≡ false) (f4 : bytes_eq (codes "make") name ≡ false)
        (f5 : bytes_eq (codes "asm") name ≡ false) (b : Bool) → bytes_eq (codes "list") name ≡ b → Named name
    last f1 f2 f3 f4 f5 true e = is_list (same (codes "list") name e)
    last f1 f2 f3 f4 f5 false e = is_other f1 f2 f3 f4 f5 e

    asm : (f1 : bytes_eq (codes "produce") name ≡ false) (f2 : bytes_eq (codes "replay") name ≡ false)
        (f3 : bytes_eq (codes "show") name ≡ false) (f4 : bytes_eq (codes "make") name ≡ false) (b : Bool)
        → bytes_eq (codes "asm") name ≡ b → Named name
    asm f1 f2 f3 f4 true e = is_asm (same (codes "asm") name e)
    asm f1 f2 f3 f4 false e = last f1 f2 f3 f4 e (bytes_eq (codes "list") name) refl

    make : (f1 : bytes_eq (codes "produce") name ≡ false) (f2 : bytes_eq (codes "replay") name ≡ false)
        (f3 : bytes_eq (codes "show") name ≡ false) (b : Bool) → bytes_eq (codes "make") name ≡ b → Named name
    make f1 f2 f3 true e = is_make (same (codes "make") name e)
    make f1 f2 f3 false e = asm f1 f2 f3 e (bytes_eq (codes "asm") name) refl

    show : (f1 : bytes_eq (codes "produce") name ≡ false) (f2 : bytes_eq (codes "replay") name ≡ false) (b : Bool) → bytes_eq (codes "show") name ≡ b → Named name
    show f1 f2 true e = is_show (same (codes "show") name e)
    show f1 f2 false e = make f1 f2 e (bytes_eq (codes "make") name) refl

    replay : (f1 : bytes_eq (codes "produce") name ≡ false) (b : Bool) → bytes_eq (codes "replay") name ≡ b → Named name
    replay f1 true e = is_replay (same (codes "replay") name e)
    replay f1 false e = show f1 e (bytes_eq (codes "show") name) refl

    produce : (b : Bool) → bytes_eq (codes "produce") name ≡ b → Named name
    produce true e = is_produce (same (codes "produce") name e)
    produce false e = replay e (bytes_eq (codes "replay") name) refl

-- ---- all together

-- the answer of a parse: its faults, and the subcommand that it entered with what it found
abbrev pub Answers : List Text → Option Command → Type 0
Answers words command = (IsFault (fault_of bank_app words) → command ≡ None)
    × (fault_of bank_app words ≡ [] → (n : Text) (f : Found) → subcommand_of bank_app words ≡ Some (n, rows_of f) → command_found n f ≡ command)

-- the uses of the options lead to the command that is read from what was found
abbrev Reads : Text → Options → (List Use → Option Command) → Type 0
Reads name o by = (uses : List Use) (f : Found) → AreUses o uses → rows_of f ≡ with_defaults o uses → command_found name f ≡ by uses

abbrev first : Option (Text × List Row) → Text
first None = []
first (Some p) = p.0

abbrev second : Option (Text × List Row) → List Row
second None = []
second (Some p) = p.1

entered : (name : Text) (o : Options) (by : List Use → Option Command) (rest : List Text) → Enters name o
    → list_all is_plain rest ≡ true → Reads name o by
    → Answers (name ∷ rest) (option_and_then by (uses_in o rest))
entered name o by rest enters all reads = go (uses_in o rest) refl (level name o rest all)
  where
    go : (r : Option (List Use)) → uses_in o rest ≡ r
        → LevelEnds o (level_fault (leaf name o) [] nothing_held rest false [])
        (rows_after (rules_of o) [] rest) r → Answers (name ∷ rest) (option_and_then by r)
    go None e h = (λ fault. refl, λ fine n f sub. absurd (rw (sym (entered_faults name o rest enters) ∙ fine) at h))
    go (Some uses) e h = (
      λ fault. absurd (rw (entered_faults name o rest enters ∙ h.0) at fault),
      λ fine n f sub.
          let both : Some (name, rows_after (rules_of o) [] rest) ≡ Some (n, rows_of f) = sym (entered_rows name o rest enters) ∙ sub in
          let n_is : n ≡ name = sym (ap (λ (p : Option (Text × List Row)). first p) both) in
          let rows_are : rows_of f ≡ with_defaults o uses = sym (ap (λ (p : Option (Text × List Row)). second p) both) ∙ h.1 in
          rw n_is (reads uses f (are_uses o rest uses e) rows_are),
    )

no_reads : (name : Text) (command : Option Command) → ((f : Found) → command_found name f ≡ command) → Reads name no_options (λ _. command)
no_reads name command same uses f all rows = same f

value_at : (o : Options) (x : Text) (uses : List Use) (f : Found) → AreUses o uses
    → rows_of f ≡ with_defaults o uses → first_of x (with_defaults o uses) ≡ given x uses
    → first_value f x ≡ given x uses
value_at o x uses f all rows reads = first_value-rows f x ∙ ap (first_of x) rows ∙ reads

produce_reads : Reads (codes "produce") produce_options produce_by
produce_reads uses f all rows =
    let lanes = value_at produce_options (codes "lanes") uses f all rows (reads_given produce_options (codes "lanes") uses all refl refl) in
    let senders = value_at produce_options (codes "senders") uses f all rows (reads_given produce_options (codes "senders") uses all refl refl) in
    ap₂ produce_from lanes senders

replay_reads : Reads (codes "replay") replay_options replay_by
replay_reads uses f all rows = ap replay_from (value_at replay_options (codes "lanes") uses f all rows (reads_given replay_options (codes "lanes") uses all refl refl))

make_reads : Reads (codes "make") make_options make_by
make_reads uses f all rows =
    let seed = value_at make_options (codes "number") uses f all rows (reads_given make_options (codes "number") uses all refl refl) in
    let count = value_at make_options (codes "count") uses f all rows (reads_given make_options (codes "count") uses all refl refl) in
    let lanes = value_at make_options (codes "lanes") uses f all rows (reads_given make_options (codes "lanes") uses all refl refl) in
    let run : is_set (first_value f (codes "run")) ≡ has_use (codes "run") uses = ap is_set (first_value-rows f (codes "run") ∙ ap (first_of (codes "run")) rows) ∙ reads_run uses all in
    ap₂ (λ (s : Option Text) (c : Option Text). make_from s c (is_set (first_value f (codes "run"))) (first_value f (codes "lanes"))) seed count
    ∙ ap₂ (λ (r : Bool) (l : Option Text). make_from (given (codes "number") uses) (given (codes "count") uses) r l) run lanes

other_form : (name : Text) → bytes_eq (codes "produce") name ≡ false → bytes_eq (codes "replay") name ≡ false
    → bytes_eq (codes "show") name ≡ false → bytes_eq (codes "make") name ≡ false
    → bytes_eq (codes "asm") name ≡ false → bytes_eq (codes "list") name ≡ false
    → (find (λ (form : Form). bytes_eq form.name name) forms ≡ None) × (subcommand_met names idle name ≡ None)
other_form name f1 f2 f3 f4 f5 f6 = (rw (f1, f2, f3, f4, f5, f6) refl, rw (f1, f2, f3, f4, f5, f6) refl)

faulty : (words : List Text) → IsFault (fault_of bank_app words) → Answers words None
faulty words h = (λ fault. refl, λ fine n f sub. absurd (rw fine at h))

by_name : (name : Text) (rest : List Text) → is_plain name ≡ true → list_all is_plain rest ≡ true → Named name → Answers (name ∷ rest) (command_in (name ∷ rest))
by_name name rest read all (is_produce e) = rw e (entered (codes "produce") produce_options produce_by rest (record { met = refl; found = refl; no_help = refl }) all produce_reads)
by_name name rest read all (is_replay e) = rw e (entered (codes "replay") replay_options replay_by rest (record { met = refl; found = refl; no_help = refl }) all replay_reads)
by_name name rest read all (is_show e) = rw e (entered (codes "show") no_options _ rest (record { met = refl; found = refl; no_help = refl }) all (no_reads (codes "show") _ (λ f. refl)))
by_name name rest read all (is_make e) = rw e (entered (codes "make") make_options make_by rest (record { met = refl; found = refl; no_help = refl }) all make_reads)
by_name name rest read all (is_asm e) = rw e (entered (codes "asm") no_options _ rest (record { met = refl; found = refl; no_help = refl }) all (no_reads (codes "asm") _ (λ f. refl)))
by_name name rest read all (is_list e) = rw e (entered (codes "list") no_options _ rest (record { met = refl; found = refl; no_help = refl }) all (no_reads (codes "list") _ (λ f. refl)))
by_name name rest read all (is_other f1 f2 f3 f4 f5 f6) =
    let none = other_form name f1 f2 f3 f4 f5 f6 in
    rw none.0 (faulty (name ∷ rest) (unmet name rest read none.1))

pub answers : (words : List Text) → list_all is_plain words ≡ true → Answers words (command_in words)
answers [] all = faulty [] nothing_given
answers (name ∷ rest) all =
    let parts = and_parts (is_plain name) (list_all is_plain rest) all in
    by_name name rest parts.0 parts.1 (named name)

-- words that are read in no way are not in form
unread_name : (name : Text) (rest : List Text) → is_plain name ≡ false → Named name → command_in (name ∷ rest) ≡ None
unread_name name rest e (is_produce n) = absurd (cc (rw n at e))
unread_name name rest e (is_replay n) = absurd (cc (rw n at e))
unread_name name rest e (is_show n) = absurd (cc (rw n at e))
unread_name name rest e (is_make n) = absurd (cc (rw n at e))
unread_name name rest e (is_asm n) = absurd (cc (rw n at e))
unread_name name rest e (is_list n) = absurd (cc (rw n at e))
unread_name name rest e (is_other f1 f2 f3 f4 f5 f6) = rw (other_form name f1 f2 f3 f4 f5 f6).0 refl

unread_rest : (name : Text) (rest : List Text) → list_all is_plain rest ≡ false → command_in (name ∷ rest) ≡ None
unread_rest name rest e = go (find (λ (form : Form). bytes_eq form.name name) forms)
  where
    go : (form : Option Form) → command_by rest form ≡ None
    go None = refl
    go (Some form) = rw (none_read form.options rest e [] None) refl

pub unread_words : (words : List Text) → list_all is_plain words ≡ false → command_in words ≡ None
unread_words [] e = absurd (cc)
unread_words (name ∷ rest) e = go (is_plain name) refl
  where
    go : (b : Bool) → is_plain name ≡ b → command_in (name ∷ rest) ≡ None
    go true r = unread_rest name rest (rw r at e)
    go false r = unread_name name rest r (named name)

-- ---- for the reader

abbrev text_of : Option Text → Text
text_of None = []
text_of (Some t) = t

abbrev list_of : Option (List Row) → List Row
list_of None = []
list_of (Some t) = t

pub all_map : (words : List (Bor Text)) → list_all is_plain (map (λ w. w.now) words) ≡ list_all (λ w. is_plain w.now) words
all_map [] = refl
all_map (w ∷ words) = ap (λ b. is_plain w.now && b) (all_map words)

explains_none : (k : ErrorKind) → Explains (fault_of_kind k) None
explains_none kind.OutOfMemory = tt
explains_none _ = refl

among_fault : (k : ErrorKind) (kinds : Kinds) → IsAmong k kinds → IsFault kinds
among_fault k [] h = absurd h
among_fault k (x ∷ xs) h = tt

pub explains : (kinds : Kinds) (k : ErrorKind) (command : Option Command) → (k ≡ kind.OutOfMemory) ⊎ IsAmong k kinds → (IsFault kinds → command ≡ None) → Explains (fault_of_kind k) command
explains kinds k command (inl memory) none = rw memory tt
explains kinds k command (inr among) none = rw (none (among_fault k kinds among)) (explains_none k)

module _ {Z : Type 0} where
  pub entered_as : (o : Option (Box SubCommand Z)) (n : Text) (rows : List Row)
      → option_map (λ b. (out-SubCommand (box_value b)).name.now) o ≡ Some n
      → option_map (λ p. p.1) (subcommand_rows o) ≡ Some rows → subcommand_rows o ≡ Some (n, rows)
  entered_as None n rows a b = absurd (cc)
  entered_as (Some s) n rows a b =
      let n_is : (out-SubCommand (box_value s)).name.now ≡ n = ap (λ (o : Option Text). text_of o) a in
      let rows_are : rows_of (found_of (out-SubCommand (box_value s)).matches) ≡ rows = ap (λ (o : Option (List Row)). list_of o) b in
      ap₂ (λ (x : Text) (y : List Row). Some (x, y)) n_is rows_are

pub bank_is_free : is_simple_and_free bank_app ≡ true
bank_is_free = refl

-- a parse that fails
pub refused : (words : List Text) (app : App) (k : ErrorKind) → list_all is_plain words ≡ true → app ≡ bank_app
    → (is_simple_and_free app ≡ true → (k ≡ kind.OutOfMemory) ⊎ IsAmong k (fault_of app words))
    → Explains (fault_of_kind k) (command_in words)
refused words app k all same kinds = explains (fault_of bank_app words) k (command_in words) ((rw same at kinds) bank_is_free) (answers words all).0

-- a parse that succeeds
pub told : (words : List Text) (app : App) (m : ArgMatches) (n : Text) (f : Found)
    → list_all is_plain words ≡ true → app ≡ bank_app
    → (is_simple_and_free app ≡ true → fault_of app words ≡ []) → HasMatchesOf app words m
    → subcommand_name_of m ≡ Some n → option_map (λ p. p.1) (subcommand_rows_of m) ≡ Some (rows_of f) → command_found n f ≡ command_in words
told words app m n f all same kinds matches name rows =
    (answers words all).1 ((rw same at kinds) bank_is_free) n f (sym ((rw same at matches) bank_is_simple).1 ∙ entered_as (out-ArgMatches m).subcommand n (rows_of f) name rows)

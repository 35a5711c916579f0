-- What the rows of uses tell: the texts of numbers, and whether the flag was used.
use Rattle.std.proofs.Common.{◌≡◌, List, [], ◌∷◌, ◌++◌, Bool, true, false, Option, Some, None, refl, sym, ap, ◌∙◌, map, codes}
use Rattle.std.specs.Prelude.{fold, slice_get}
use Rattle.std.specs.Option.{option_map_or}
use Rattle.std.specs.List.{AllByRecursion}
use Rattle.std.specs.Str.{bytes_eq}
use Rattle.std.proofs.lemmas.Slice.Eq.{bytes_eq-Decides}
use Rattle.std.proofs.lemmas.Bool.{or_parts}
use Rattle.clap.specs.Lexer.{long_of}
use Rattle.clap.specs.Walk.{Row, Rule, with_default, more_values, has_row, first_of}
use Rattle.clap.specs.declared.parser.matches.ValueSource.TheVariants.{DefaultValue}
use Rattle.clap.specs.declared.builder.value_parser.Reading.TheVariants.{AsWritten}
use Rattle.bank_words.specs.Options.{Text, Options, Takes, number, nothing, unknown, is_among, takes, Use, has_use, is_dashed, uses_after, uses_in, more, word_uses, option_uses, given}
use Rattle.bank_words.specs.Commands.{make_options}
use Rattle.bank_words.proofs.Rules.{number_rule, run_rule, rows_for, values_of, has_row-rows_for, at_row-absent}
use Rattle.bank_words.proofs.Levels.{with_defaults}

-- a use has a text exactly where its option takes a number
abbrev pub kind : Option Text → Takes
kind (Some value) = number
kind None = nothing

abbrev pub AreUses : Options → List Use → Type 0
AreUses o uses = AllByRecursion (λ u. takes o u.name ≡ kind u.value) uses

abbrev pub Kept : Options → Option (List Use) → Type 0
Kept o None = Unit {0}
Kept o (Some uses) = AreUses o uses

push_use : (o : Options) (uses : List Use) (u : Use) → AreUses o uses → takes o u.name ≡ kind u.value → AreUses o (uses ++ u ∷ [])
push_use o [] u all one = (one, tt)
push_use o (v ∷ uses) u all one = (all.0, push_use o uses u all.1 one)

kept_more : (o : Options) (uses : List Use) (u : Use) (next : List Use → Option (List Use)) → AreUses o uses
    → takes o u.name ≡ kind u.value → ((us : List Use) → AreUses o us → Kept o (next us))
    → Kept o (more uses u next)
kept_more o uses u next all one rest = go (has_use u.name uses) refl
  where
    go : (b : Bool) → has_use u.name uses ≡ b → Kept o (more uses u next)
    go true e = rw e tt
    go false e = rw e (rest (uses ++ u ∷ []) (push_use o uses u all one))

abbrev KeptIdle : Options → List Text → Type 0
KeptIdle o words = (uses : List Use) → AreUses o uses → Kept o (uses_after o uses None words)

abbrev KeptWaits : Options → List Text → Type 0
KeptWaits o words = (uses : List Use) (n : Text) → AreUses o uses → takes o n ≡ number → Kept o (uses_after o uses (Some n) words)

kept_word : (o : Options) (word : Text) (words : List Text) → KeptIdle o words → KeptWaits o words → KeptIdle o (word ∷ words)
kept_word o word words next waits uses all = by_form (long_of word)
  where
    by_option : (x : Text) (v : Option Text) (t : Takes) → takes o x ≡ t → Kept o (option_uses t x v uses (λ us p. uses_after o us p words))
    by_option x (Some value) number t = kept_more o uses (record { name = x; value = Some value }) (λ us. uses_after o us None words) all t next
    by_option x None number t = waits uses x all t
    by_option x (Some value) nothing t = tt
    by_option x None nothing t = kept_more o uses (record { name = x; value = None }) (λ us. uses_after o us None words) all t next
    by_option x v unknown t = tt

    by_form : (p : Option (Text × Option Text)) → Kept o (word_uses o p uses (λ us q. uses_after o us q words))
    by_form None = tt
    by_form (Some p) = by_option p.0 p.1 (takes o p.0) refl

kept_value : (o : Options) (word : Text) (words : List Text) → KeptIdle o words → KeptWaits o (word ∷ words)
kept_value o word words next uses n all t = by_dash (is_dashed word) refl
  where
    by_dash : (b : Bool) → is_dashed word ≡ b → Kept o (uses_after o uses (Some n) (word ∷ words))
    by_dash true e = rw e tt
    by_dash false e = rw e (kept_more o uses (record { name = n; value = Some word }) (λ us. uses_after o us None words) all t next)

kept : (o : Options) (words : List Text) → KeptIdle o words × KeptWaits o words
kept o [] = (λ uses all. all, λ uses n all t. tt)
kept o (word ∷ words) =
    let rest = kept o words in
    (kept_word o word words rest.0 rest.1, kept_value o word words rest.0)

pub are_uses : (o : Options) (words : List Text) (uses : List Use) → uses_in o words ≡ Some uses → AreUses o uses
are_uses o words uses e = rw e at ((kept o words).0 [] tt)

-- ---- the first value of an option

first_one : (v : Option Text) → number ≡ kind v → slice_get (values_of v) 0 ≡ v
first_one (Some value) e = refl
first_one None e = absurd (cc)

first_given : (o : Options) (x : Text) (uses : List Use) → AreUses o uses → takes o x ≡ number → first_of x (rows_for uses) ≡ given x uses
first_given o x [] all t = refl
first_given o x (u ∷ uses) all t = go (first_given o x uses all.1 t) (bytes_eq u.name x) refl
  where
    go : first_of x (rows_for uses) ≡ given x uses → (b : Bool) → bytes_eq u.name x ≡ b → first_of x (rows_for (u ∷ uses)) ≡ given x (u ∷ uses)
    go rest true e =
        let same : u.name ≡ x = (bytes_eq-Decides u.name x).0 e in
        rw e (first_one u.value (sym t ∙ sym (ap (takes o) same) ∙ all.0))
    go rest false e = rw e rest

find_push : (x : Text) (rows : List Row) (row : Row) → bytes_eq row.id x ≡ false → first_of x (rows ++ row ∷ []) ≡ first_of x rows
find_push x [] row e = rw e refl
find_push x (r ∷ rows) row e = go (find_push x rows row e) (bytes_eq r.id x) refl
  where
    go : first_of x (rows ++ row ∷ []) ≡ first_of x rows → (b : Bool) → bytes_eq r.id x ≡ b → first_of x ((r ∷ rows) ++ row ∷ []) ≡ first_of x (r ∷ rows)
    go rest true h = rw h refl
    go rest false h = rw h rest

abbrev default_row : Text → Row
default_row f = record { id = f; values = codes "false" ∷ []; count = None; source = Some DefaultValue; reading = AsWritten }

flag_default : (rows : List Row) (f : Text) → has_row f rows ≡ false → with_default rows (run_rule f) ≡ rows ++ default_row f ∷ []
flag_default rows f e = rw e (at_row-absent f (more_values DefaultValue (codes "false" ∷ [])) (default_row f ∷ []) rows e)

flag_stays : (rows : List Row) (f x : Text) → bytes_eq f x ≡ false → first_of x (with_default rows (run_rule f)) ≡ first_of x rows
flag_stays rows f x other = go (has_row f rows) refl
  where
    go : (b : Bool) → has_row f rows ≡ b → first_of x (with_default rows (run_rule f)) ≡ first_of x rows
    go true e = rw e refl
    go false e = ap (first_of x) (flag_default rows f e) ∙ find_push x rows (default_row f) other

flags_stay : (fs : List Text) (rows : List Row) (x : Text) → is_among x fs ≡ false → first_of x (fold with_default rows (map run_rule fs)) ≡ first_of x rows
flags_stay [] rows x e = refl
flags_stay (f ∷ fs) rows x e =
    let parts = or_parts (bytes_eq f x) (is_among x fs) e in
    flags_stay fs (with_default rows (run_rule f)) x parts.1 ∙ flag_stays rows f x parts.0

number_default : (rows : List Row) (n : Text) → with_default rows (number_rule n) ≡ rows
number_default rows n = go (has_row n rows) refl
  where
    go : (b : Bool) → has_row n rows ≡ b → with_default rows (number_rule n) ≡ rows
    go true e = rw e refl
    go false e = rw e refl

numbers_stay : (ns : List Text) (rest : List Rule) (rows : List Row) → fold with_default rows (map number_rule ns ++ rest) ≡ fold with_default rows rest
numbers_stay [] rest rows = refl
numbers_stay (n ∷ ns) rest rows = ap (λ (rs : List Row). fold with_default rs (map number_rule ns ++ rest)) (number_default rows n) ∙ numbers_stay ns rest rows

pub reads_given : (o : Options) (x : Text) (uses : List Use) → AreUses o uses → takes o x ≡ number → is_among x o.flags ≡ false → first_of x (with_defaults o uses) ≡ given x uses
reads_given o x uses all t other =
    ap (first_of x) (numbers_stay o.numbers (map run_rule o.flags) (rows_for uses)) ∙ flags_stay o.flags (rows_for uses) x other ∙ first_given o x uses all t

-- ---- the flag

abbrev pub is_set : Option Text → Bool
is_set t = option_map_or (λ s. bytes_eq s (codes "true")) t false

set_one : (v : Option Text) → nothing ≡ kind v → is_set (slice_get (values_of v) 0) ≡ true
set_one (Some value) e = absurd (cc)
set_one None e = refl

first_set : (o : Options) (x : Text) (uses : List Use) → AreUses o uses → takes o x ≡ nothing → has_use x uses ≡ true → is_set (first_of x (rows_for uses)) ≡ true
first_set o x [] all t h = absurd (cc)
first_set o x (u ∷ uses) all t h = go (first_set o x uses all.1 t) (bytes_eq u.name x) refl
  where
    go : (has_use x uses ≡ true → is_set (first_of x (rows_for uses)) ≡ true) → (b : Bool) → bytes_eq u.name x ≡ b → is_set (first_of x (rows_for (u ∷ uses))) ≡ true
    go rest true e =
        let same : u.name ≡ x = (bytes_eq-Decides u.name x).0 e in
        rw e (set_one u.value (sym t ∙ sym (ap (takes o) same) ∙ all.0))
    go rest false e = rw e (rest (rw e at h))

find_last : (x : Text) (rows : List Row) (row : Row) → has_row x rows ≡ false → bytes_eq row.id x ≡ true → first_of x (rows ++ row ∷ []) ≡ slice_get row.values 0
find_last x [] row h e = rw e refl
find_last x (r ∷ rows) row h e =
    let parts = or_parts (bytes_eq r.id x) (has_row x rows) h in
    rw parts.0 (find_last x rows row parts.1 e)

pub reads_run : (uses : List Use) → AreUses make_options uses → is_set (first_of (codes "run") (with_defaults make_options uses)) ≡ has_use (codes "run") uses
reads_run uses all = ap (λ (rs : List Row). is_set (first_of (codes "run") rs))
    (numbers_stay make_options.numbers (map run_rule make_options.flags) (rows_for uses))
    ∙ go (has_use (codes "run") uses) refl
  where
    go : (b : Bool) → has_use (codes "run") uses ≡ b → is_set (first_of (codes "run") (with_default (rows_for uses) (run_rule (codes "run")))) ≡ b
    go true e = rw (has_row-rows_for (codes "run") uses, e) (first_set make_options (codes "run") uses all refl e)
    go false e =
        let absent : has_row (codes "run") (rows_for uses) ≡ false = has_row-rows_for (codes "run") uses ∙ e in
        ap (λ (rs : List Row). is_set (first_of (codes "run") rs))
        (flag_default (rows_for uses) (codes "run") absent)
        ∙ ap is_set (find_last (codes "run") (rows_for uses) (default_row (codes "run")) absent refl)

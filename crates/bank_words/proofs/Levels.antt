-- The two levels of the command line, whole.
use Rattle.std.proofs.Common.{◌≡◌, List, [], ◌∷◌, ◌++◌, Bool, true, false, ◌&&◌, not, Option, Some, None, refl, ap, ◌∙◌, map, append_assoc, append-nil}
use Rattle.std.specs.Prelude.{fold}
use Rattle.std.specs.List.{list_all, list_any}
use Rattle.clap.specs.Kinds.{Kinds, or_else}
use Rattle.clap.specs.Walk.{Rule, Row, Names, idle, Walk, walked, with_default, has_row, nothing_held, rows_after}
use Rattle.clap.specs.Takes.{is_given}
use Rattle.clap.specs.Faults.{walk_fault, settle_fault, default_fault, defaults_fault, check_fault, level_fault, fault_of}
use Rattle.clap.specs.Simple.{Shape, is_simple}
use Rattle.bank_words.specs.Options.{Text, Options, Use, uses_in}
use Rattle.bank_words.specs.CommandLine.{bank_app}
use Rattle.bank_words.specs.Reading.{is_plain}
use Rattle.bank_words.proofs.Rules.{rules_of, number_rule, run_rule, rows_for}
use Rattle.bank_words.proofs.Turns.{leaf, stands}
use Rattle.bank_words.proofs.Uses.{IsFault, fault_first, faults_from, rows_from, Ends}
use Rattle.bank_words.proofs.Steps.{walks}

-- the rows at the end: those of the uses, and those of defaults
abbrev pub with_defaults : Options → List Use → List Row
with_defaults o uses = fold with_default (rows_for uses) (rules_of o)

no_flag_fault : (rows : List Row) (f : Text) → default_fault rows (run_rule f) ≡ []
no_flag_fault rows f = go (has_row f rows) refl
  where
    go : (b : Bool) → has_row f rows ≡ b → default_fault rows (run_rule f) ≡ []
    go true e = rw e refl
    go false e = rw e refl

no_value_fault : (rows : List Row) (n : Text) → default_fault rows (number_rule n) ≡ []
no_value_fault rows n = go (has_row n rows) refl
  where
    go : (b : Bool) → has_row n rows ≡ b → default_fault rows (number_rule n) ≡ []
    go true e = rw e refl
    go false e = rw e refl

no_default_fault : (ns fs : List Text) (rows : List Row) → defaults_fault rows (map number_rule ns ++ map run_rule fs) ≡ []
unfolding defaults_fault
no_default_fault [] [] rows = refl
no_default_fault [] (f ∷ fs) rows = rw (no_flag_fault rows f) (no_default_fault [] fs (with_default rows (run_rule f)))
no_default_fault (n ∷ ns) fs rows = rw (no_value_fault rows n) (no_default_fault ns fs (with_default rows (number_rule n)))

none_required : (ns fs : List Text) (rows : List Row) → list_any (λ (a : Rule). a.required && not (is_given a.id rows)) (map number_rule ns ++ map run_rule fs) ≡ false
none_required [] [] rows = refl
none_required [] (f ∷ fs) rows = none_required [] fs rows
none_required (n ∷ ns) fs rows = none_required ns fs rows

no_check_fault : (name : Text) (o : Options) (rows : List Row) → check_fault (leaf name o) rows false ≡ []
no_check_fault name o rows = rw (none_required o.numbers o.flags rows) refl

or_else_first : (a b : Kinds) → or_else a b ≡ [] → a ≡ []
or_else_first [] b e = refl
or_else_first (k ∷ ks) b e = absurd (cc)

or_else_second : (a b : Kinds) → or_else a b ≡ [] → b ≡ []
or_else_second [] b e = e
or_else_second (k ∷ ks) b e = absurd (cc)

fault_inside : (a b c : Kinds) → IsFault (or_else a b) → IsFault (or_else a (or_else b c))
fault_inside [] b c h = fault_first b c h
fault_inside (k ∷ ks) b c h = tt

-- a subcommand's words: its faults and its rows
abbrev pub LevelEnds : Options → Kinds → List Row → Option (List Use) → Type 0
LevelEnds o faults rows None = IsFault faults
LevelEnds o faults rows (Some uses) = (faults ≡ []) × (rows ≡ with_defaults o uses)

pub level : (name : Text) (o : Options) (words : List Text) → list_all is_plain words ≡ true
    → LevelEnds o (level_fault (leaf name o) [] nothing_held words false []) (rows_after (rules_of o) [] words)
    (uses_in o words)
level name o words all = by_uses (uses_in o words) ((walks name o words all).0 [] nothing_held (record { fine = refl; rows = refl }))
  where
    by_uses : (r : Option (List Use))
        → Ends (faults_from name o (stands nothing_held idle) words)
        (rows_from o (stands nothing_held idle) words) r
        → LevelEnds o (level_fault (leaf name o) [] nothing_held words false [])
        (rows_after (rules_of o) [] words) r
    by_uses None h = fault_inside (walk_fault (leaf name o) [] (stands nothing_held idle) words)
        (settle_fault (rules_of o) false (fold (walked (rules_of o) []) (stands nothing_held idle) words).held)
        _ h
    by_uses (Some uses) h =
        let first = or_else_first (walk_fault (leaf name o) [] (stands nothing_held idle) words) _ h.0 in
        let second = or_else_second (walk_fault (leaf name o) [] (stands nothing_held idle) words) _ h.0 in
        (rw (first, second, no_default_fault o.numbers o.flags _, no_check_fault name o _) refl, ap (λ (rs : List Row). fold with_default rs (rules_of o)) h.1)

-- ---- the level above

pub stopped : (c : List Rule) (names : Names) (w : Walk) (n : Text) (xs words : List Text)
    → fold (walked c names) (record w { stopped = Some (n, xs) }) words
    ≡ record w { stopped = Some (n, xs ++ words) }
unfolding walked
stopped c names w n xs [] = rw (append-nil xs) refl
stopped c names w n xs (word ∷ words) = stopped c names w n (xs ++ word ∷ []) words ∙ rw (append_assoc xs (word ∷ []) words) refl

pub stopped_fault : (s : Shape) (names : Names) (w : Walk) (p : Text × List Text) (words : List Text) → walk_fault s names (record w { stopped = Some p }) words ≡ []
unfolding walk_fault walked
stopped_fault s names w p [] = refl
stopped_fault s names w p (word ∷ words) = stopped_fault s names w (p.0, p.1 ++ word ∷ []) words

pub bank_is_simple : is_simple bank_app ≡ true
bank_is_simple = refl

pub nothing_given : IsFault (fault_of bank_app [])
unfolding walk_fault defaults_fault
nothing_given = tt

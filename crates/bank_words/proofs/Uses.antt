-- The words after a subcommand: `clap` takes them exactly where they spell uses of its options.
use Rattle.std.proofs.Common.{◌≡◌, ◌==◌, ℕ, List, [], ◌∷◌, ◌++◌, Bool, true, false, Option, Some, None, refl, sym, ap, ◌∙◌, map, codes, subst}
use Rattle.std.specs.Prelude.{fold}
use Rattle.std.specs.List.{list_all}
use Rattle.std.proofs.lemmas.Bool.{not-true, and_parts}
use Rattle.std.proofs.lemmas.List.{map_push}
use Rattle.clap.specs.Lexer.{long_of, short_of}
use Rattle.clap.specs.Kinds.{Kinds, or_else}
use Rattle.clap.specs.Walk.{Held, Row, Waiting, idle, option, Walk, walked, settled, reacted, used, more_values}
use Rattle.clap.specs.Walk.{arg_by_long, arg_by_id, arg_by_index}
use Rattle.clap.specs.Faults.{turn_fault, walk_fault, settle_fault, long_fault, use_fault}
use Rattle.clap.specs.declared.parser.matches.ValueSource.TheVariants.{CommandLine}
use Rattle.bank_words.specs.Options.{Text, Options, Takes, number, nothing, unknown, takes, Use, has_use, is_dashed, uses_after, more}
use Rattle.bank_words.specs.Reading.{is_plain}
use Rattle.bank_words.proofs.Rules.{rules_of, rule_for, number_rule, run_rule, row_of, rows_for, by_long, by_id, has_row-rows_for, with_row}
use Rattle.bank_words.proofs.Turns.{leaf, stands, long_turn}

abbrev pub IsFault : Kinds → Type 0
IsFault [] = ⊥
IsFault (k ∷ ks) = Unit {0}

pub fault_first : (a b : Kinds) → IsFault a → IsFault (or_else a b)
fault_first [] b h = absurd h
fault_first (k ∷ ks) b h = tt

-- what a walk from here comes to
abbrev pub faults_from : Text → Options → Walk → List Text → Kinds
faults_from name o w words = or_else (walk_fault (leaf name o) [] w words) (settle_fault (rules_of o) false (fold (walked (rules_of o) []) w words).held)

abbrev pub rows_from : Options → Walk → List Text → List Row
rows_from o w words = (settled (rules_of o) (fold (walked (rules_of o) []) w words).held).rows

abbrev pub Ends : Kinds → List Row → Option (List Use) → Type 0
Ends faults rows None = IsFault faults
Ends faults rows (Some uses) = (faults ≡ []) × (rows ≡ rows_for uses)

pub go_on : (name : Text) (o : Options) (w v : Walk) (word : Text) (words : List Text) (r : Option (List Use)) → turn_fault (leaf name o) [] w word ≡ [] → walked (rules_of o) [] w word ≡ v
    → Ends (faults_from name o v words) (rows_from o v words) r → Ends (faults_from name o w (word ∷ words)) (rows_from o w (word ∷ words)) r
unfolding walk_fault
go_on name o w v word words r fine next h = rw fine (subst (λ (z : Walk). Ends (faults_from name o z words) (rows_from o z words) r) (sym next) h)

pub stop_here : (name : Text) (o : Options) (w : Walk) (word : Text) (words : List Text) → IsFault (turn_fault (leaf name o) [] w word) → IsFault (faults_from name o w (word ∷ words))
unfolding walk_fault
stop_here name o w word words h = fault_first (walk_fault (leaf name o) [] w (word ∷ words)) _ (fault_first (turn_fault (leaf name o) [] w word) _ h)

-- nothing of the held arguments is at fault, and their rows are those of the uses
pub record IsIdle (o : Options) (h : Held) (uses : List Use) : Type 0 where
  pub fine : settle_fault (rules_of o) false h ≡ []
  pub rows : (settled (rules_of o) h).rows ≡ rows_for uses

-- an option waits for its value
abbrev pub awaiting : List Use → Text → ℕ → Held
awaiting uses n skip = record { rows = rows_for uses; pending = Some (n, []); skip = skip }

no_index : (ns fs : List Text) → arg_by_index (map number_rule ns ++ map run_rule fs) 1 ≡ None
no_index [] [] = refl
no_index [] (f ∷ fs) = no_index [] fs
no_index (n ∷ ns) fs = no_index ns fs

pub short_none : (b : ℕ) (bs : Text) → (b == 45) ≡ false → short_of (b ∷ bs) ≡ None
short_none b bs e = rw e refl

-- a word that begins with no hyphen
pub plain_stops : (name : Text) (o : Options) (h : Held) (word : Text) → is_dashed word ≡ false → IsFault (turn_fault (leaf name o) [] (stands h idle) word)
plain_stops name o h [] e = rw (no_index o.numbers o.flags) tt
plain_stops name o h (b ∷ bs) e = let f : (b == 45) ≡ false = e in rw (f, short_none b bs f, no_index o.numbers o.flags) tt

pub long_bad : (o : Options) (x : Text) (v : Option Text) (h : Held) → IsFault (settle_fault (rules_of o) false h) → IsFault (long_fault (rules_of o) false (arg_by_long (rules_of o) x) v h)
long_bad o x v h bad = rw (by_long o.numbers o.flags x) (by_takes (takes o x) v)
  where
    by_takes : (t : Takes) (v : Option Text) → IsFault (long_fault (rules_of o) false (rule_for t x) v h)
    by_takes number (Some value) = fault_first (settle_fault (rules_of o) false h) _ bad
    by_takes number None = bad
    by_takes nothing (Some value) = tt
    by_takes nothing None = fault_first (settle_fault (rules_of o) false h) _ bad
    by_takes unknown v = tt

pub not_dashed : (word : Text) → is_plain word ≡ true → long_of word ≡ None → is_dashed word ≡ false
not_dashed word e n = not-true (is_dashed word) (rw n at e)

pub bad_idle : (name : Text) (o : Options) (h : Held) (words : List Text) → list_all is_plain words ≡ true
    → IsFault (settle_fault (rules_of o) false h) → IsFault (faults_from name o (stands h idle) words)
unfolding walk_fault
bad_idle name o h [] read bad = bad
bad_idle name o h (word ∷ words) read bad = stop_here name o (stands h idle) word words (by_form (long_of word) refl)
  where
    by_form : (p : Option (Text × Option Text)) → long_of word ≡ p → IsFault (turn_fault (leaf name o) [] (stands h idle) word)
    by_form None e = plain_stops name o h word (not_dashed word (and_parts (is_plain word) (list_all is_plain words) read).0 e)
    by_form (Some p) e = rw (long_turn name o h idle word p.0 p.1 e).0 (fault_first (long_fault (rules_of o) false (arg_by_long (rules_of o) p.0) p.1 h) _ (long_bad o p.0 p.1 h bad))

-- ---- one use more

pub one_more : (uses : List Use) (u : Use) → rows_for (uses ++ u ∷ []) ≡ rows_for uses ++ row_of u ∷ []
one_more uses u = map_push row_of uses u

abbrev pub value_use : Text → Text → Use
value_use x value = record { name = x; value = Some value }

abbrev pub flag_use : Text → Use
flag_use x = record { name = x; value = None }

-- an option with its value
pub value_fine : (uses : List Use) (x value : Text) → has_use x uses ≡ false → use_fault false (number_rule x) (value ∷ []) (rows_for uses) ≡ []
value_fine uses x value e = rw (has_row-rows_for x uses, e) refl

pub value_again : (uses : List Use) (x value : Text) → has_use x uses ≡ true → IsFault (use_fault false (number_rule x) (value ∷ []) (rows_for uses))
value_again uses x value e = rw (has_row-rows_for x uses, e) tt

pub flag_fine : (uses : List Use) (x : Text) → has_use x uses ≡ false → use_fault false (run_rule x) [] (rows_for uses) ≡ []
flag_fine uses x e = rw (has_row-rows_for x uses, e) refl

pub flag_again : (uses : List Use) (x : Text) → has_use x uses ≡ true → IsFault (use_fault false (run_rule x) [] (rows_for uses))
flag_again uses x e = rw (has_row-rows_for x uses, e) tt

pub value_rows : (uses : List Use) (x value : Text) → has_use x uses ≡ false → used (number_rule x) (value ∷ []) (rows_for uses) ≡ rows_for (uses ++ value_use x value ∷ [])
value_rows uses x value e = with_row x (more_values CommandLine (value ∷ [])) (row_of (value_use x value)) (rows_for uses) (has_row-rows_for x uses ∙ e) ∙ sym (one_more uses (value_use x value))

pub flag_rows : (uses : List Use) (x : Text) → has_use x uses ≡ false → used (run_rule x) [] (rows_for uses) ≡ rows_for (uses ++ flag_use x ∷ [])
flag_rows uses x e = with_row x (more_values CommandLine (codes "true" ∷ [])) (row_of (flag_use x)) (rows_for uses) (has_row-rows_for x uses ∙ e) ∙ sym (one_more uses (flag_use x))

-- ---- the turns

long_known : (o : Options) (x : Text) (t : Takes) → takes o x ≡ t → arg_by_long (rules_of o) x ≡ rule_for t x
long_known o x t e = by_long o.numbers o.flags x ∙ ap (λ s. rule_for s x) e

pub id_known : (o : Options) (x : Text) (t : Takes) → takes o x ≡ t → arg_by_id (rules_of o) x ≡ rule_for t x
id_known o x t e = by_id o.numbers o.flags x ∙ ap (λ s. rule_for s x) e

pub value_turn : (name : Text) (o : Options) (h : Held) (waiting : Waiting) (word x value : Text) → long_of word ≡ Some (x, Some value) → takes o x ≡ number
    → (turn_fault (leaf name o) [] (stands h waiting) word ≡ or_else (or_else (settle_fault (rules_of o) false h) (use_fault false (number_rule x) (value ∷ []) (settled (rules_of o) h).rows)) [])
    × (walked (rules_of o) [] (stands h waiting) word ≡ stands (reacted (rules_of o) (number_rule x) (value ∷ []) h) idle)
value_turn name o h waiting word x value e t =
    let turn = long_turn name o h waiting word x (Some value) e in
    let known = long_known o x number t in
    (turn.0 ∙ rw known refl, turn.1 ∙ rw known refl)

pub name_turn : (name : Text) (o : Options) (h : Held) (waiting : Waiting) (word x : Text) → long_of word ≡ Some (x, None) → takes o x ≡ number
    → (turn_fault (leaf name o) [] (stands h waiting) word ≡ or_else (settle_fault (rules_of o) false h) [])
    × (walked (rules_of o) [] (stands h waiting) word ≡ stands (record (settled (rules_of o) h) { pending = Some (x, []) }) (option x))
name_turn name o h waiting word x e t =
    let turn = long_turn name o h waiting word x None e in
    let known = long_known o x number t in
    (turn.0 ∙ rw known refl, turn.1 ∙ rw known refl)

pub flag_turn : (name : Text) (o : Options) (h : Held) (waiting : Waiting) (word x : Text) → long_of word ≡ Some (x, None) → takes o x ≡ nothing
    → (turn_fault (leaf name o) [] (stands h waiting) word ≡ or_else (or_else (settle_fault (rules_of o) false h) (use_fault false (run_rule x) [] (settled (rules_of o) h).rows)) [])
    × (walked (rules_of o) [] (stands h waiting) word ≡ stands (reacted (rules_of o) (run_rule x) [] h) idle)
flag_turn name o h waiting word x e t =
    let turn = long_turn name o h waiting word x None e in
    let known = long_known o x nothing t in
    (turn.0 ∙ rw known refl, turn.1 ∙ rw known refl)

pub flag_with_value : (name : Text) (o : Options) (h : Held) (waiting : Waiting) (word x value : Text)
    → long_of word ≡ Some (x, Some value) → takes o x ≡ nothing
    → IsFault (turn_fault (leaf name o) [] (stands h waiting) word)
flag_with_value name o h waiting word x value e t = rw ((long_turn name o h waiting word x (Some value) e).0, long_known o x nothing t) tt

pub unknown_turn : (name : Text) (o : Options) (h : Held) (waiting : Waiting) (word x : Text) (v : Option Text)
    → long_of word ≡ Some (x, v) → takes o x ≡ unknown
    → IsFault (turn_fault (leaf name o) [] (stands h waiting) word)
unknown_turn name o h waiting word x v e t = rw ((long_turn name o h waiting word x v e).0, long_known o x unknown t) tt

-- ---- the walk

abbrev pub FromIdle : Text → Options → List Text → Type 0
FromIdle name o words = (uses : List Use) (h : Held) → IsIdle o h uses → Ends (faults_from name o (stands h idle) words) (rows_from o (stands h idle) words) (uses_after o uses None words)

abbrev pub FromAwaiting : Text → Options → List Text → Type 0
FromAwaiting name o words = (uses : List Use) (n : Text) (skip : ℕ) → takes o n ≡ number
    → Ends (faults_from name o (stands (awaiting uses n skip) (option n)) words)
    (rows_from o (stands (awaiting uses n skip) (option n)) words) (uses_after o uses (Some n) words)

pub idle_value : (name : Text) (o : Options) (uses : List Use) (h : Held) (word x value : Text)
    (words : List Text) → FromIdle name o words → IsIdle o h uses → long_of word ≡ Some (x, Some value)
    → takes o x ≡ number
    → Ends (faults_from name o (stands h idle) (word ∷ words)) (rows_from o (stands h idle) (word ∷ words)) (more uses (value_use x value) (λ us. uses_after o us None words))
idle_value name o uses h word x value words next i e t = by_use (has_use x uses) refl
  where
    turn : (turn_fault (leaf name o) [] (stands h idle) word ≡ or_else (or_else (settle_fault (rules_of o) false h) (use_fault false (number_rule x) (value ∷ []) (settled (rules_of o) h).rows)) [])
        × (walked (rules_of o) [] (stands h idle) word ≡ stands (reacted (rules_of o) (number_rule x) (value ∷ []) h) idle)
    turn = value_turn name o h idle word x value e t

    by_use : (b : Bool) → has_use x uses ≡ b
        → Ends (faults_from name o (stands h idle) (word ∷ words)) (rows_from o (stands h idle) (word ∷ words))
        (more uses (value_use x value) (λ us. uses_after o us None words))
    by_use true again = rw again
        (stop_here name o (stands h idle) word words
        (rw (turn.0, i.fine, i.rows)
        (fault_first (use_fault false (number_rule x) (value ∷ []) (rows_for uses)) []
        (value_again uses x value again))))
    by_use false fresh = rw fresh
        (go_on name o (stands h idle) _ word words (uses_after o (uses ++ value_use x value ∷ []) None words)
        (turn.0 ∙ rw (i.fine, i.rows, value_fine uses x value fresh) refl) turn.1
        (next (uses ++ value_use x value ∷ []) (reacted (rules_of o) (number_rule x) (value ∷ []) h)
        (record {
          fine = refl;
          rows = ap (λ (rs : List Row). used (number_rule x) (value ∷ []) rs) i.rows
              ∙ value_rows uses x value fresh;
        })))

pub idle_flag : (name : Text) (o : Options) (uses : List Use) (h : Held) (word x : Text) (words : List Text)
    → FromIdle name o words → IsIdle o h uses → long_of word ≡ Some (x, None) → takes o x ≡ nothing
    → Ends (faults_from name o (stands h idle) (word ∷ words)) (rows_from o (stands h idle) (word ∷ words)) (more uses (flag_use x) (λ us. uses_after o us None words))
idle_flag name o uses h word x words next i e t = by_use (has_use x uses) refl
  where
    turn : (turn_fault (leaf name o) [] (stands h idle) word ≡ or_else (or_else (settle_fault (rules_of o) false h) (use_fault false (run_rule x) [] (settled (rules_of o) h).rows)) [])
        × (walked (rules_of o) [] (stands h idle) word ≡ stands (reacted (rules_of o) (run_rule x) [] h) idle)
    turn = flag_turn name o h idle word x e t

    by_use : (b : Bool) → has_use x uses ≡ b
        → Ends (faults_from name o (stands h idle) (word ∷ words)) (rows_from o (stands h idle) (word ∷ words))
        (more uses (flag_use x) (λ us. uses_after o us None words))
    by_use true again = rw again
        (stop_here name o (stands h idle) word words
        (rw (turn.0, i.fine, i.rows)
        (fault_first (use_fault false (run_rule x) [] (rows_for uses)) [] (flag_again uses x again))))
    by_use false fresh = rw fresh (go_on name o (stands h idle) _ word words (uses_after o (uses ++ flag_use x ∷ []) None words) (turn.0 ∙ rw (i.fine, i.rows, flag_fine uses x fresh) refl) turn.1
        (next (uses ++ flag_use x ∷ []) (reacted (rules_of o) (run_rule x) [] h) (record { fine = refl; rows = ap (λ (rs : List Row). used (run_rule x) [] rs) i.rows ∙ flag_rows uses x fresh })))

pub idle_name : (name : Text) (o : Options) (uses : List Use) (h : Held) (word x : Text) (words : List Text)
    → FromAwaiting name o words → IsIdle o h uses → long_of word ≡ Some (x, None) → takes o x ≡ number
    → Ends (faults_from name o (stands h idle) (word ∷ words)) (rows_from o (stands h idle) (word ∷ words)) (uses_after o uses (Some x) words)
idle_name name o uses h word x words next i e t =
    let turn = name_turn name o h idle word x e t in
    go_on name o (stands h idle) (stands (awaiting uses x h.skip) (option x)) word words (uses_after o uses (Some x) words) (turn.0 ∙ rw i.fine refl) (turn.1 ∙ rw i.rows refl) (next uses x h.skip t)

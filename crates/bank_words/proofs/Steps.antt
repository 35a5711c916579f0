-- The walk over the words of a subcommand, word by word.
use Rattle.std.proofs.Common.{◌≡◌, ◌==◌, ℕ, List, [], ◌∷◌, ◌++◌, Bool, true, false, Option, Some, None, refl}
use Rattle.std.specs.List.{list_all}
use Rattle.std.specs.Str.{bytes_eq}
use Rattle.std.proofs.lemmas.Slice.Eq.{bytes_eq-Decides}
use Rattle.std.proofs.lemmas.Bool.{and_parts}
use Rattle.clap.specs.Lexer.{long_of}
use Rattle.clap.specs.Walk.{Held, idle, option, walked, arg_by_long}
use Rattle.clap.specs.Faults.{turn_fault, walk_fault, settle_fault, long_fault}
use Rattle.bank_words.specs.Options.{Text, Options, Takes, number, nothing, unknown, takes, Use, has_use, is_dashed, uses_after, more, word_uses, option_uses}
use Rattle.bank_words.specs.Reading.{is_plain}
use Rattle.bank_words.proofs.Rules.{rules_of, rows_for}
use Rattle.bank_words.proofs.Turns.{leaf, stands, long_turn}
use Rattle.bank_words.proofs.Uses.{IsFault, fault_first, faults_from, rows_from, Ends, go_on, stop_here, awaiting, plain_stops, long_bad, not_dashed, bad_idle, value_use, value_fine, value_again, value_rows, short_none, flag_with_value, unknown_turn, FromIdle, FromAwaiting, idle_value, idle_flag, idle_name, id_known}

step_idle : (name : Text) (o : Options) (word : Text) (words : List Text) → is_plain word ≡ true → FromIdle name o words → FromAwaiting name o words → FromIdle name o (word ∷ words)
step_idle name o word words read next waits uses h i = by_form (long_of word) refl
  where
    by_option : (x : Text) (v : Option Text) → long_of word ≡ Some (x, v) → (t : Takes) → takes o x ≡ t
        → Ends (faults_from name o (stands h idle) (word ∷ words)) (rows_from o (stands h idle) (word ∷ words)) (option_uses t x v uses (λ us p. uses_after o us p words))
    by_option x (Some value) e number t = idle_value name o uses h word x value words next i e t
    by_option x None e number t = idle_name name o uses h word x words waits i e t
    by_option x (Some value) e nothing t = stop_here name o (stands h idle) word words (flag_with_value name o h idle word x value e t)
    by_option x None e nothing t = idle_flag name o uses h word x words next i e t
    by_option x v e unknown t = stop_here name o (stands h idle) word words (unknown_turn name o h idle word x v e t)

    by_form : (p : Option (Text × Option Text)) → long_of word ≡ p
        → Ends (faults_from name o (stands h idle) (word ∷ words)) (rows_from o (stands h idle) (word ∷ words))
        (word_uses o p uses (λ us q. uses_after o us q words))
    by_form None e = stop_here name o (stands h idle) word words (plain_stops name o h word (not_dashed word read e))
    by_form (Some p) e = by_option p.0 p.1 e (takes o p.0) refl

-- the option has got its value, which is not read as a use yet
abbrev got : List Use → Text → Text → ℕ → Held
got uses n word skip = record { rows = rows_for uses; pending = Some (n, word ∷ []); skip = skip }

same_text : (n : Text) → bytes_eq n n ≡ true
same_text n = (bytes_eq-Decides n n).1 refl

plain_turn : (name : Text) (o : Options) (uses : List Use) (n : Text) (skip : ℕ) (word : Text) → takes o n ≡ number → is_dashed word ≡ false
    → (turn_fault (leaf name o) [] (stands (awaiting uses n skip) (option n)) word ≡ []) × (walked (rules_of o) [] (stands (awaiting uses n skip) (option n)) word ≡ stands (got uses n word skip) idle)
unfolding walked
plain_turn name o uses n skip [] t e = (refl, rw (id_known o n number t, same_text n) refl)
plain_turn name o uses n skip (b ∷ bs) t e =
    let f : (b == 45) ≡ false = e in
    (rw (f, short_none b bs f) refl, rw (f, short_none b bs f, id_known o n number t, same_text n) refl)

waits_bad : (o : Options) (uses : List Use) (n : Text) (skip : ℕ) → takes o n ≡ number → IsFault (settle_fault (rules_of o) false (awaiting uses n skip))
waits_bad o uses n skip t = rw (id_known o n number t) tt

step_awaiting : (name : Text) (o : Options) (word : Text) (words : List Text) → is_plain word ≡ true → list_all is_plain words ≡ true → FromIdle name o words → FromAwaiting name o (word ∷ words)
step_awaiting name o word words read all next uses n skip t = by_dash (is_dashed word) refl
  where
    by_form : (p : Option (Text × Option Text)) → long_of word ≡ p → is_dashed word ≡ true → IsFault (turn_fault (leaf name o) [] (stands (awaiting uses n skip) (option n)) word)
    by_form None e d = absurd (cc (not_dashed word read e, d))
    by_form (Some p) e d = rw (long_turn name o (awaiting uses n skip) (option n) word p.0 p.1 e).0
        (fault_first (long_fault (rules_of o) false (arg_by_long (rules_of o) p.0) p.1 (awaiting uses n skip)) _
        (long_bad o p.0 p.1 (awaiting uses n skip) (waits_bad o uses n skip t)))

    by_use : (b : Bool) → has_use n uses ≡ b → is_dashed word ≡ false
        → Ends (faults_from name o (stands (awaiting uses n skip) (option n)) (word ∷ words))
        (rows_from o (stands (awaiting uses n skip) (option n)) (word ∷ words))
        (more uses (value_use n word) (λ us. uses_after o us None words))
    by_use true again d = rw again
        (let turn = plain_turn name o uses n skip word t d in
        go_on name o _ (stands (got uses n word skip) idle) word words None turn.0 turn.1
        (bad_idle name o (got uses n word skip) words all (rw (id_known o n number t) (value_again uses n word again))))
    by_use false fresh d = rw fresh
        (let turn = plain_turn name o uses n skip word t d in
        go_on name o _ (stands (got uses n word skip) idle) word words (uses_after o (uses ++ value_use n word ∷ []) None words) turn.0 turn.1
        (next (uses ++ value_use n word ∷ []) (got uses n word skip)
        (record {
          fine = rw (id_known o n number t) (value_fine uses n word fresh);
          rows = rw
              (id_known o n number t) (value_rows uses n word fresh);
        })))

    by_dash : (b : Bool) → is_dashed word ≡ b
        → Ends (faults_from name o (stands (awaiting uses n skip) (option n)) (word ∷ words))
        (rows_from o (stands (awaiting uses n skip) (option n)) (word ∷ words))
        (uses_after o uses (Some n) (word ∷ words))
    by_dash true d = rw d (stop_here name o (stands (awaiting uses n skip) (option n)) word words (by_form (long_of word) refl d))
    by_dash false d = rw d (by_use (has_use n uses) refl d)

-- what a walk over words comes to is what they spell
pub walks : (name : Text) (o : Options) (words : List Text) → list_all is_plain words ≡ true → FromIdle name o words × FromAwaiting name o words
unfolding walk_fault
walks name o [] all = (λ uses h i. (i.fine, i.rows), λ uses n skip t. waits_bad o uses n skip t)
walks name o (word ∷ words) all =
    let parts = and_parts (is_plain word) (list_all is_plain words) all in
    let rest = walks name o words parts.1 in (
      step_idle name o word words parts.0 rest.0 rest.1,
      step_awaiting name o word words parts.0 parts.1 rest.0,
    )

-- The words behind a command's name, one after the other.
use Rattle.std.proofs.Common.{◌≡◌, ◌≤◌, ◌<◌, List, [], ◌∷◌, length, map, take, drop, slice_index_or, ◌-◌, Bool, true, false, Option, None, Ok, Err, refl, ap, ◌∙◌, arith}
use Rattle.std.specs.Prelude.{MatchBool}
use Rattle.std.specs.Borrow.{Bor}
use Rattle.std.proofs.lemmas.List.{take_rest}
use Rattle.spec_base.specs.Reading.{◌>>=◌}
use Rattle.command_words.specs.Shapes.{Rules, Text}
use Rattle.command_words.specs.Arguments.{Read, Setting, Start, next_of, setting_of, settings_after, value_in, waits_of, with_start}
use Rattle.command_words.specs.Faults.{is_words_memory}
use Rattle.command_words.specs.declared.arguments.Argument.{Argument}
use Rattle.command_words.specs.declared.fault.WordsFault.{WordsFault}

first_word : (others : List (Bor Text)) (d : Bor Text) → 1 ≤ length others
    → map (λ w. w.now) others ≡ (slice_index_or others 0 d).now ∷ map (λ w. w.now) (drop 1 others)
first_word [] d some = absurd (omega arith)
first_word (word ∷ words) d some = refl

-- where no argument is left, none sets a name
pub none_in_empty : (name : Text) (others : List Argument) → length others < 1
    → value_in name (map setting_of others) ≡ None
none_in_empty name [] short = refl
none_in_empty name (one ∷ more) short = absurd (omega arith)

abbrev after_start : Rules → List Setting → List Text → Read Start → Read (List Setting)
after_start rules settings words read =
    read >>= (λ start. settings_after rules (with_start settings start) (waits_of start) words)

by_first : (rules : Rules) (settings : List Setting) (waits : Option Text)
    (others : List (Bor Text)) (d : Bor Text) (first : Read Start) (read : Read (List Setting))
    → 1 ≤ length others → read ≡ settings_after rules settings waits (map (λ w. w.now) others)
    → next_of rules settings waits (slice_index_or others 0 d).now ≡ first
    → read ≡ after_start rules settings (map (λ w. w.now) (drop 1 others)) first
by_first rules settings waits others d first read some same is =
    same ∙ ap (settings_after rules settings waits) (first_word others d some)
    ∙ ap (after_start rules settings (map (λ w. w.now) (drop 1 others))) is

-- the settings behind a word that starts something
pub started : (rules : Rules) (settings settings' : List Setting)
    (waits waits' : Option Text) (others : List (Bor Text)) (d : Bor Text) (start : Start)
    (read : Read (List Setting))
    → 1 ≤ length others → read ≡ settings_after rules settings waits (map (λ w. w.now) others)
    → next_of rules settings waits (slice_index_or others 0 d).now ≡ Ok start
    → settings' ≡ with_start settings start → waits' ≡ waits_of start
    → read ≡ settings_after rules settings' waits'
    (map (λ w. w.now) (take (length others - 1) (drop 1 others)))
started rules settings settings' waits waits' others d start read some same is with_it waits_for =
    rw (take_rest others 1, with_it, waits_for)
    (by_first rules settings waits others d (Ok start) read some same is)

-- a word that is refused refuses all
pub refused : (rules : Rules) (settings : List Setting) (waits : Option Text)
    (others : List (Bor Text)) (d : Bor Text) (fault : WordsFault) (read : Read (List Setting))
    → 1 ≤ length others → read ≡ settings_after rules settings waits (map (λ w. w.now) others)
    → MatchBool (is_words_memory fault) (Unit {0})
    (next_of rules settings waits (slice_index_or others 0 d).now ≡ Err fault)
    → MatchBool (is_words_memory fault) (Unit {0}) (read ≡ Err fault)
refused rules settings waits others d fault read some same given =
    by_case (is_words_memory fault) given
  where
    by_case : (b : Bool)
        → MatchBool b (Unit {0}) (next_of rules settings waits (slice_index_or others 0 d).now ≡ Err fault)
        → MatchBool b (Unit {0}) (read ≡ Err fault)
    by_case true none = tt
    by_case false is = by_first rules settings waits others d (Err fault) read some same is

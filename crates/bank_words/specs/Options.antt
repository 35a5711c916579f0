-- The options that follow a command, as words (the project's own form of them).
use Rattle.std.specs.Prelude.{ℕ, ◌==◌, Bool, List, [], ◌∷◌, ◌++◌, slice_index, Option, Some, None, option_and_then, find, if◌then◌else◌}
use Rattle.std.specs.List.{list_any}
use Rattle.std.specs.Str.{bytes_eq}
use Rattle.clap.specs.Lexer.{long_of}

abbrev pub Text : Type 0
Text = List ℕ

-- the options that a command has: those that take a number, and those that take none
pub record Options : Type 0 where
  pub numbers : List Text
  pub flags : List Text

-- what an option takes
pub data Takes : Type 0 where
  number : Takes
  nothing : Takes
  unknown : Takes

abbrev pub is_among : Text → List Text → Bool
is_among name names = list_any (λ n. bytes_eq n name) names

abbrev pub takes : Options → Text → Takes
takes o name =
    if is_among name o.numbers then number else (if is_among name o.flags then nothing else unknown)

-- a use of an option: its name, and the text of its number where it takes one
pub record Use : Type 0 where
  pub name : Text
  pub value : Option Text

abbrev pub has_use : Text → List Use → Bool
has_use name uses = list_any (λ u. bytes_eq u.name name) uses

-- the text of the option's number, where the option was used
abbrev pub given : Text → List Use → Option Text
given name uses = option_and_then (λ u. u.value) (find (λ u. bytes_eq u.name name) uses)

-- the uses with one more, where its option was not used before
abbrev pub more : List Use → Use → (List Use → Option (List Use)) → Option (List Use)
more uses u next = if has_use u.name uses then None else next (uses ++ u ∷ [])

-- the word begins with a hyphen
abbrev pub is_dashed : Text → Bool
is_dashed word = slice_index word 0 == 45

-- what the word `--name` or `--name=value` comes to: a use, or a number is waited for
abbrev pub option_uses : Takes → Text → Option Text → List Use
    → (List Use → Option Text → Option (List Use)) → Option (List Use)
option_uses number name (Some value) uses next =
    more uses (record { name = name; value = Some value }) (λ us. next us None)
option_uses number name None uses next = next uses (Some name)
option_uses nothing name None uses next =
    more uses (record { name = name; value = None }) (λ us. next us None)
option_uses _ name value uses next = None

abbrev pub word_uses : Options → Option (Text × Option Text) → List Use
    → (List Use → Option Text → Option (List Use)) → Option (List Use)
word_uses o None uses next = None
word_uses o (Some p) uses next = option_uses (takes o p.0) p.0 p.1 uses next

-- the uses so far and those that the words spell, each option at most once; a name may wait for its
-- number
abbrev pub uses_after : Options → List Use → Option Text → List Text → Option (List Use)
uses_after o uses None [] = Some uses
uses_after o uses (Some name) [] = None
uses_after o uses (Some name) (word ∷ words) =
    if is_dashed word then None
    else more uses (record { name = name; value = Some word }) (λ us. uses_after o us None words)
uses_after o uses None (word ∷ words) =
    word_uses o (long_of word) uses (λ us waits. uses_after o us waits words)

-- the uses that the words spell, or None where they spell none
abbrev pub uses_in : Options → List Text → Option (List Use)
uses_in o words = uses_after o [] None words

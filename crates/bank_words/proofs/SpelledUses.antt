-- Words that spell uses of options are read as them.
use Rattle.std.proofs.Common.{◌≡◌, ◌+◌, ◌<◌, suc, ◌==◌, Bool, true, false, not, List, [], ◌∷◌, ◌++◌, length, map, drop, Some, None, refl, ap, ap₂, ◌∙◌, append_assoc, append-nil, arith}
use Rattle.std.specs.List.{list_all, flat_map, prefix_len, before_first, after_first, IsDistinct, AllByRecursion}
use Rattle.std.specs.Str.{bytes_eq}
use Rattle.std.proofs.lemmas.Bool.{and_parts, not-true}
use Rattle.std.proofs.lemmas.List.{take_at, take_all, map-append}
use Rattle.clap.specs.Lexer.{long_of, has_byte, name_and_value}
use Rattle.bank_words.specs.Options.{Text, Options, Takes, number, nothing, unknown, takes, Use, has_use, uses_after}
use Rattle.bank_words.specs.Spelling.{Written, apart, joined, alone, words_of, use_of, name_of, Fits}

-- an option's name is not empty and has no `=`
pub record IsName (name : Text) : Type 0 where
  pub some : 0 < length name
  pub plain : list_all (λ b. not (b == 61)) name ≡ true

abbrev pub no_equals : Text → Bool
no_equals name = list_all (λ b. not (b == 61)) name

len_here : (xs ys : Text) → no_equals xs ≡ true → prefix_len (λ b. not (b == 61)) (xs ++ 61 ∷ ys) ≡ length xs
len_here [] ys h = refl
len_here (x ∷ xs) ys h =
    let parts = and_parts (not (x == 61)) (no_equals xs) h in
    rw (parts.0, len_here xs ys parts.1) (omega arith)

pub len_none : (xs : Text) → no_equals xs ≡ true → prefix_len (λ b. not (b == 61)) xs ≡ length xs
len_none [] h = refl
len_none (x ∷ xs) h =
    let parts = and_parts (not (x == 61)) (no_equals xs) h in
    rw (parts.0, len_none xs parts.1) (omega arith)

has_here : (xs ys : Text) → no_equals xs ≡ true → has_byte 61 (xs ++ 61 ∷ ys) ≡ true
has_here [] ys h = refl
has_here (x ∷ xs) ys h =
    let parts = and_parts (not (x == 61)) (no_equals xs) h in
    rw (not-true (x == 61) parts.0) (has_here xs ys parts.1)

has_none : (xs : Text) → no_equals xs ≡ true → has_byte 61 xs ≡ false
has_none [] h = refl
has_none (x ∷ xs) h =
    let parts = and_parts (not (x == 61)) (no_equals xs) h in
    rw (not-true (x == 61) parts.0) (has_none xs parts.1)

after_here : (xs ys : Text) → drop (length xs + 1) (xs ++ 61 ∷ ys) ≡ ys
after_here [] ys = refl
after_here (x ∷ xs) ys =
    let step : length (x ∷ xs) + 1 ≡ suc (length xs + 1) = omega arith in
    rw step (after_here xs ys)

parts_joined : (name value : Text) → no_equals name ≡ true → name_and_value (name ++ 61 ∷ value) ≡ (name, Some value)
parts_joined name value h =
    let front : before_first (λ b. b == 61) (name ++ 61 ∷ value) ≡ name = rw (len_here name value h) (take_at name (61 ∷ value) (length name) refl) in
    let back : after_first (λ b. b == 61) (name ++ 61 ∷ value) ≡ value = rw (len_here name value h) (after_here name value) in
    rw (has_here name value h) (ap₂ (λ (a : Text) (b : Text). (a, Some b)) front back)

parts_alone : (name : Text) → no_equals name ≡ true → name_and_value name ≡ (name, None)
parts_alone name h =
    let front : before_first (λ b. b == 61) name ≡ name = rw (len_none name h) (take_all (length name) name (omega arith)) in
    rw (has_none name h) (ap (λ (a : Text). (a, None)) front)

long_joined : (name value : Text) → IsName name → long_of (45 ∷ 45 ∷ (name ++ 61 ∷ value)) ≡ Some (name, Some value)
long_joined [] value n = absurd (omega (arith, n.some))
long_joined (x ∷ xs) value n = ap Some (parts_joined (x ∷ xs) value n.plain)

long_alone : (name : Text) → IsName name → long_of (45 ∷ 45 ∷ name) ≡ Some (name, None)
long_alone [] n = absurd (omega (arith, n.some))
long_alone (x ∷ xs) n = ap Some (parts_alone (x ∷ xs) n.plain)

-- ---- no option twice

abbrev pub used_names : List Use → List Text
used_names uses = map (λ u. u.name) uses

-- a name that differs from all names after it differs from one of them
differs : (x y : Text) (xs ys : List Text) → AllByRecursion (λ z. bytes_eq x z ≡ false) (xs ++ y ∷ ys) → bytes_eq x y ≡ false
differs x y [] ys all = all.0
differs x y (z ∷ zs) ys all = differs x y zs ys all.1

fresh : (before : List Use) (x : Text) (rest : List Text) → IsDistinct bytes_eq (used_names before ++ x ∷ rest) → has_use x before ≡ false
unfolding IsDistinct
fresh [] x rest once = refl
fresh (u ∷ before) x rest once = rw (differs u.name x (used_names before) rest once.0) (fresh before x rest once.1)

one_used : (before : List Use) (u : Use) (rest : List Text) → IsDistinct bytes_eq (used_names before ++ u.name ∷ rest) → IsDistinct bytes_eq (used_names (before ++ u ∷ []) ++ rest)
one_used before u rest once = rw (map-append (λ (v : Use). v.name) before (u ∷ []), append_assoc (used_names before) (u.name ∷ []) rest) once

-- ---- the words of uses

abbrev pub AreNamed : Options → Type 0
AreNamed o = (x : Text) → (takes o x ≡ unknown → ⊥) → IsName x

known : (t : Takes) → t ≡ number → t ≡ unknown → ⊥
known t e f = absurd (cc)

known_flag : (t : Takes) → t ≡ nothing → t ≡ unknown → ⊥
known_flag t e f = absurd (cc)

pub spelled_after : (o : Options) (before : List Use) (ws : List Written) → AreNamed o
    → AllByRecursion (Fits o) ws → IsDistinct bytes_eq (used_names before ++ map name_of ws)
    → uses_after o before None (flat_map words_of ws) ≡ Some (before ++ map use_of ws)
spelled_after o before [] named fit once = rw append-nil refl
spelled_after o before (apart name value ∷ ws) named fit once =
    rw (
      long_alone name (named name (known (takes o name) fit.0.0)),
      fit.0.0,
      fit.0.1,
      fresh before name
          (map name_of ws) once,
    ) (spelled_after o (before ++ use_of (apart name value) ∷ []) ws named fit.1
    (one_used before (use_of (apart name value)) (map name_of ws) once)
    ∙ ap Some (append_assoc before (use_of (apart name value) ∷ []) (map use_of ws)))
spelled_after o before (joined name value ∷ ws) named fit once =
    rw (
      long_joined name value (named name (known (takes o name) fit.0)),
      fit.0,
      fresh before name
          (map name_of ws) once,
    ) (spelled_after o (before ++ use_of (joined name value) ∷ []) ws named fit.1
    (one_used before (use_of (joined name value)) (map name_of ws) once)
    ∙ ap Some (append_assoc before (use_of (joined name value) ∷ []) (map use_of ws)))
spelled_after o before (alone name ∷ ws) named fit once =
    rw (
      long_alone name (named name (known_flag (takes o name) fit.0)),
      fit.0,
      fresh before name
          (map name_of ws) once,
    ) (spelled_after o (before ++ use_of (alone name) ∷ []) ws named fit.1
    (one_used before (use_of (alone name)) (map name_of ws) once)
    ∙ ap Some (append_assoc before (use_of (alone name) ∷ []) (map use_of ws)))

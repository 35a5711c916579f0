-- Commands and the words that spell them.
use Rattle.std.proofs.Common.{◌≡◌, ◌&&◌, Bool, true, false, List, [], ◌∷◌, length, nat_lt, map, Option, Some, None, refl, sym, ap, ◌∙◌}
use Rattle.std.specs.Prelude.{find, option_and_then}
use Rattle.std.specs.List.{list_all, flat_map}
use Rattle.std.specs.Str.{bytes_eq}
use Rattle.std.proofs.lemmas.Slice.Eq.{bytes_eq-Decides}
use Rattle.std.proofs.lemmas.Bool.{and_parts, ltb-true}
use Rattle.bank_words.specs.Options.{Text, Options, is_among, Use, uses_in}
use Rattle.bank_words.specs.Commands.{Form, forms, form_named, command_by, command_in}
use Rattle.bank_words.specs.Spelling.{Written, words_of, use_of, name_of, IsSpelled}
use Rattle.bank_words.specs.declared.command.Command.{Command}
use Rattle.bank_words.proofs.SpelledUses.{IsName, no_equals, AreNamed, used_names, spelled_after}
use Rattle.bank_words.proofs.ReadUses.{read_back}

-- ---- the options of every command have names

abbrev is_name : Text → Bool
is_name x = nat_lt 0 (length x) && no_equals x

abbrev are_names : Options → Bool
are_names o = list_all is_name o.numbers && list_all is_name o.flags

name_among : (names : List Text) (x : Text) → list_all is_name names ≡ true → is_among x names ≡ true → is_name x ≡ true
name_among [] x all e = absurd (cc)
name_among (n ∷ names) x all e = go (name_among names x (and_parts (is_name n) (list_all is_name names) all).1) (bytes_eq n x) refl
  where
    go : (is_among x names ≡ true → is_name x ≡ true) → (b : Bool) → bytes_eq n x ≡ b → is_name x ≡ true
    go rest true f = ap is_name (sym ((bytes_eq-Decides n x).0 f)) ∙ (and_parts (is_name n) (list_all is_name names) all).0
    go rest false f = rest (rw f at e)

as_name : (x : Text) → is_name x ≡ true → IsName x
as_name x e =
    let parts = and_parts (nat_lt 0 (length x)) (no_equals x) e in
    record { some = ltb-true 0 (length x) parts.0; plain = parts.1 }

named : (o : Options) → are_names o ≡ true → AreNamed o
named o e x met = as_name x (go (is_among x o.numbers) refl (is_among x o.flags) refl)
  where
    all : (list_all is_name o.numbers ≡ true) × (list_all is_name o.flags ≡ true)
    all = and_parts (list_all is_name o.numbers) (list_all is_name o.flags) e

    go : (b : Bool) → is_among x o.numbers ≡ b → (c : Bool) → is_among x o.flags ≡ c → is_name x ≡ true
    go true f c g = name_among o.numbers x all.0 f
    go false f true g = name_among o.flags x all.1 g
    go false f false g = absurd (met (rw (f, g) refl))

found_passes : (test pass : Form → Bool) (fs : List Form) (form : Form) → list_all pass fs ≡ true → find test fs ≡ Some form → pass form ≡ true
found_passes test pass [] form all e = absurd (cc)
found_passes test pass (f ∷ fs) form all e = go (found_passes test pass fs form parts.1) (test f) refl
  where
    parts : (pass f ≡ true) × (list_all pass fs ≡ true)
    parts = and_parts (pass f) (list_all pass fs) all

    of : Option Form → Form
    of None = f
    of (Some x) = x

    go : (find test fs ≡ Some form → pass form ≡ true) → (b : Bool) → test f ≡ b → pass form ≡ true
    go rest true t = ap pass (sym (ap of (rw t at e))) ∙ parts.0
    go rest false t = rest (rw t at e)

form_has_names : (name : Text) (form : Form) → form_named name ≡ Some form → AreNamed form.options
form_has_names name form e = named form.options (found_passes (λ f. bytes_eq f.name name) (λ f. are_names f.options) forms form refl e)

-- ---- both ways

-- words that spell a command are it
pub spelled_is_read : (words : List Text) (command : Command) → IsSpelled words command → command_in words ≡ Some command
spelled_is_read words command s =
    ap command_in s.spelled ∙ ap (command_by (flat_map words_of s.written)) s.known
    ∙ ap (option_and_then s.form.by) (spelled_after s.form.options [] s.written (form_has_names s.name s.form s.known) s.fits s.once) ∙ s.told

names_of_uses : (ws : List Written) → used_names (map use_of ws) ≡ map name_of ws
names_of_uses [] = refl
names_of_uses (w ∷ ws) = ap (λ (ns : List Text). name_of w ∷ ns) (names_of_uses ws)

-- words that are a command spell it
pub read_is_spelled : (words : List Text) (command : Command) → command_in words ≡ Some command → IsSpelled words command
read_is_spelled [] command e = absurd (cc)
read_is_spelled (name ∷ words) command e = by_form (form_named name) refl e
  where
    by_uses : (form : Form) → form_named name ≡ Some form → (us : Option (List Use)) → uses_in form.options words ≡ us → option_and_then form.by us ≡ Some command → IsSpelled (name ∷ words) command
    by_uses form known None f h = absurd (cc)
    by_uses form known (Some uses) f h =
        let s = read_back form.options words uses f in
        record {
          name = name;
          form = form;
          written = s.written;
          known = known;
          spelled = ap (λ (ws : List Text). name ∷ ws) s.same;
          fits = s.fits;
          once = rw (s.told, names_of_uses s.written) at s.once;
          told = rw s.told at h;
        }

    by_form : (found : Option Form) → form_named name ≡ found → command_by words found ≡ Some command → IsSpelled (name ∷ words) command
    by_form None known h = absurd (cc)
    by_form (Some form) known h = by_uses form known (uses_in form.options words) refl h

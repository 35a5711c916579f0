-- Words from which uses are read spell them.
use Rattle.std.proofs.Common.{◌≡◌, ◌+◌, ℕ, suc, ◌==◌, Bool, true, false, not, List, [], ◌∷◌, ◌++◌, length, map, Option, Some, None, refl, sym, ap, ap₂, ◌∙◌, append_assoc, append-nil, arith}
use Rattle.std.specs.Prelude.{option_and_then}
use Rattle.std.specs.List.{flat_map, prefix_len, before_first, after_first, IsDistinct, AllByRecursion}
use Rattle.std.specs.Str.{bytes_eq}
use Rattle.std.proofs.lemmas.List.{map-append}
use Rattle.std.proofs.lemmas.Bool.{eqb-true, or_parts}
use Rattle.std.proofs.lemmas.List.{take_all}
use Rattle.clap.specs.Lexer.{long_of, long_of_rest, strip_byte, has_byte, name_and_value}
use Rattle.bank_words.specs.Options.{Text, Options, Takes, number, nothing, unknown, takes, Use, has_use, is_dashed, more, option_uses, uses_after, uses_in}
use Rattle.bank_words.specs.Spelling.{Written, apart, joined, alone, words_of, use_of, Fits}
use Rattle.bank_words.proofs.SpelledUses.{no_equals, len_none, used_names}

abbrev rest_of : Option Text → Text
rest_of None = []
rest_of (Some t) = t

strip_back : (word rest : Text) → strip_byte 45 word ≡ Some rest → word ≡ 45 ∷ rest
strip_back [] rest e = absurd (cc)
strip_back (x ∷ xs) rest e = go (x == 45) refl
  where
    go : (b : Bool) → (x == 45) ≡ b → x ∷ xs ≡ 45 ∷ rest
    go true f = ap₂ (λ (y : ℕ) (ys : Text). y ∷ ys) (eqb-true x 45 f) (ap rest_of (rw f at e))
    go false f = absurd (cc (rw f at e))

abbrev spelled : Text → Option Text → Text
spelled x None = x
spelled x (Some v) = x ++ 61 ∷ v

cut_back : (text : Text) → has_byte 61 text ≡ true → text ≡ before_first (λ b. b == 61) text ++ 61 ∷ after_first (λ b. b == 61) text
cut_back [] h = absurd (cc)
cut_back (x ∷ xs) h = go (cut_back xs) (x == 61) refl
  where
    go : (has_byte 61 xs ≡ true → xs ≡ before_first (λ b. b == 61) xs ++ 61 ∷ after_first (λ b. b == 61) xs)
        → (b : Bool) → (x == 61) ≡ b
        → x ∷ xs ≡ before_first (λ b. b == 61) (x ∷ xs) ++ 61 ∷ after_first (λ b. b == 61) (x ∷ xs)
    go rest true f = rw f (ap (λ (y : ℕ). y ∷ xs) (eqb-true x 61 f))
    go rest false f =
        let n = prefix_len (λ b. not (b == 61)) xs in
        let one : 1 + n ≡ suc n = omega arith in
        let two : suc n + 1 ≡ suc (n + 1) = omega arith in
        rw (f, one, two) (ap (λ (ys : Text). x ∷ ys) (rest (rw f at h)))

none_back : (text : Text) → has_byte 61 text ≡ false → no_equals text ≡ true
none_back [] h = refl
none_back (x ∷ xs) h = let parts = or_parts (x == 61) (has_byte 61 xs) h in rw (parts.0, none_back xs parts.1) refl

text_back : (text : Text) → text ≡ spelled (name_and_value text).0 (name_and_value text).1
text_back text = go (has_byte 61 text) refl
  where
    go : (b : Bool) → has_byte 61 text ≡ b → text ≡ spelled (name_and_value text).0 (name_and_value text).1
    go true f = rw f (cut_back text f)
    go false f = rw f (sym (rw (len_none text (none_back text f)) (take_all (length text) text (omega arith))))

rest_back : (t : Text) (p : Text × Option Text) → long_of_rest t ≡ Some p → t ≡ spelled p.0 p.1
rest_back [] p e = absurd (cc)
rest_back (x ∷ xs) p e = text_back (x ∷ xs) ∙ ap (λ (o : Option (Text × Option Text)). of_pair o) e
  where
    of_pair : Option (Text × Option Text) → Text
    of_pair None = []
    of_pair (Some q) = spelled q.0 q.1

-- an option's word is spelled by its parts
pub long_back : (word : Text) (p : Text × Option Text) → long_of word ≡ Some p → word ≡ 45 ∷ 45 ∷ spelled p.0 p.1
long_back word p e = first (strip_byte 45 word) refl
  where
    second : (r : Text) → word ≡ 45 ∷ r → option_and_then long_of_rest (strip_byte 45 r) ≡ Some p → (o : Option Text) → strip_byte 45 r ≡ o → word ≡ 45 ∷ 45 ∷ spelled p.0 p.1
    second r w h None f = absurd (cc (rw f at h))
    second r w h (Some t) f = w ∙ ap (λ (s : Text). 45 ∷ s) (strip_back r t f) ∙ ap (λ (s : Text). 45 ∷ 45 ∷ s) (rest_back t p (rw f at h))

    first : (o : Option Text) → strip_byte 45 word ≡ o → word ≡ 45 ∷ 45 ∷ spelled p.0 p.1
    first None f = absurd (cc (rw f at e))
    first (Some r) f = second r (strip_back word r f) (rw f at e) (strip_byte 45 r) refl

-- ---- no option twice

apart_from : (x : Text) (uses : List Use) → has_use x uses ≡ false → AllByRecursion (λ y. bytes_eq y x ≡ false) (used_names uses)
apart_from x [] e = tt
apart_from x (u ∷ uses) e =
    let parts = or_parts (bytes_eq u.name x) (has_use x uses) e in
    (parts.0, apart_from x uses parts.1)

one_more_apart : (y : Text) (xs : List Text) (x : Text) → AllByRecursion (λ z. bytes_eq y z ≡ false) xs → bytes_eq y x ≡ false → AllByRecursion (λ z. bytes_eq y z ≡ false) (xs ++ x ∷ [])
one_more_apart y [] x all e = (e, tt)
one_more_apart y (z ∷ zs) x all e = (all.0, one_more_apart y zs x all.1 e)

one_more_distinct : (xs : List Text) (x : Text) → IsDistinct bytes_eq xs → AllByRecursion (λ y. bytes_eq y x ≡ false) xs → IsDistinct bytes_eq (xs ++ x ∷ [])
unfolding IsDistinct
one_more_distinct [] x once all = (tt, tt)
one_more_distinct (y ∷ ys) x once all = (one_more_apart y ys x once.0 all.0, one_more_distinct ys x once.1 all.1)

once_more : (uses : List Use) (u : Use) → IsDistinct bytes_eq (used_names uses) → has_use u.name uses ≡ false → IsDistinct bytes_eq (used_names (uses ++ u ∷ []))
once_more uses u once e = rw (map-append (λ (v : Use). v.name) uses (u ∷ [])) (one_more_distinct (used_names uses) u.name once (apart_from u.name uses e))

-- ---- the words of uses

-- the words spell these uses after those before
pub record Spells (o : Options) (before uses : List Use) (words : List Text) : Type 0 where
  pub written : List Written
  pub same : words ≡ flat_map words_of written
  pub fits : AllByRecursion (Fits o) written
  pub told : uses ≡ before ++ map use_of written
  pub once : IsDistinct bytes_eq (used_names uses)

abbrev Once : List Use → Type 0
Once uses = IsDistinct bytes_eq (used_names uses)

more_back : (before : List Use) (u : Use) (next : List Use → Option (List Use)) (us : List Use) → Once before
    → more before u next ≡ Some us → Once (before ++ u ∷ []) × (next (before ++ u ∷ []) ≡ Some us)
more_back before u next us once e = go (has_use u.name before) refl
  where
    go : (b : Bool) → has_use u.name before ≡ b → Once (before ++ u ∷ []) × (next (before ++ u ∷ []) ≡ Some us)
    go true f = absurd (cc (rw f at e))
    go false f = (once_more before u once f, rw f at e)

one_more : (o : Options) (w : Written) (before us : List Use) (words : List Text) → Fits o w → Spells o (before ++ use_of w ∷ []) us words → Spells o before us (words_of w ++ words)
one_more o w before us words fit s = record {
  written = w ∷ s.written;
  same = ap (λ (ts : List Text). words_of w ++ ts) s.same;
  fits = (fit, s.fits);
  told = s.told ∙ append_assoc before (use_of w ∷ []) (map use_of s.written);
  once = s.once;
}

abbrev BackIdle : Options → List Text → Type 0
BackIdle o words = (before us : List Use) → Once before → uses_after o before None words ≡ Some us → Spells o before us words

abbrev BackWaits : Options → List Text → Type 0
BackWaits o words = (before us : List Use) (n : Text) → takes o n ≡ number → Once before → uses_after o before (Some n) words ≡ Some us → Spells o before us ((45 ∷ 45 ∷ n) ∷ words)

first_word : (o : Options) (before us : List Use) (w v : Text) (words : List Text) → w ≡ v → Spells o before us (v ∷ words) → Spells o before us (w ∷ words)
first_word o before us w v words e s = record {
  written = s.written;
  same = ap (λ (x : Text). x ∷ words) e ∙ s.same;
  fits = s.fits;
  told = s.told;
  once = s.once;
}

-- one use, and those of the words after it
use_back : (o : Options) (words : List Text) → BackIdle o words → (w : Written) (before us : List Use)
    → Fits o w → Once before → more before (use_of w) (λ vs. uses_after o vs None words) ≡ Some us
    → Spells o before us (words_of w ++ words)
use_back o words next w before us fit once e =
    let back = more_back before (use_of w) (λ vs. uses_after o vs None words) us once e in
    one_more o w before us words fit (next (before ++ use_of w ∷ []) us back.0 back.1)

idle_back : (o : Options) (word : Text) (words : List Text) → BackIdle o words → BackWaits o words → BackIdle o (word ∷ words)
idle_back o word words next waits before us once e = by_form (long_of word) refl
  where
    by_option : (x : Text) (v : Option Text) → long_of word ≡ Some (x, v) → (t : Takes) → takes o x ≡ t
        → option_uses t x v before (λ us p. uses_after o us p words) ≡ Some us
        → Spells o before us (word ∷ words)
    by_option x (Some v) f number t h = first_word o before us word _ words (long_back word (x, Some v) f) (use_back o words next (joined x v) before us t once h)
    by_option x None f number t h = first_word o before us word _ words (long_back word (x, None) f) (waits before us x t once h)
    by_option x (Some v) f nothing t h = absurd (cc)
    by_option x None f nothing t h = first_word o before us word _ words (long_back word (x, None) f) (use_back o words next (alone x) before us t once h)
    by_option x v f unknown t h = absurd (cc)

    by_form : (p : Option (Text × Option Text)) → long_of word ≡ p → Spells o before us (word ∷ words)
    by_form None f = absurd (cc (rw f at e))
    by_form (Some p) f = by_option p.0 p.1 f (takes o p.0) refl (rw f at e)

waits_back : (o : Options) (word : Text) (words : List Text) → BackIdle o words → BackWaits o (word ∷ words)
waits_back o word words next before us n t once e = go (is_dashed word) refl
  where
    go : (b : Bool) → is_dashed word ≡ b → Spells o before us ((45 ∷ 45 ∷ n) ∷ word ∷ words)
    go true f = absurd (cc (rw f at e))
    go false f = use_back o words next (apart n word) before us (t, f) once (rw f at e)

some_uses : (a b : List Use) → Some a ≡ Some b → b ≡ a
some_uses a b e = sym (ap (λ (o : Option (List Use)). of o) e)
  where
    of : Option (List Use) → List Use
    of None = []
    of (Some x) = x

nothing_back : (o : Options) (before us : List Use) → Once before → us ≡ before → Spells o before us []
nothing_back o before us once e = record {
  written = [];
  same = refl;
  fits = tt;
  told = e ∙ sym (append-nil before);
  once = rw e once;
}

both : (o : Options) (words : List Text) → BackIdle o words × BackWaits o words
both o [] = (λ before us once e. nothing_back o before us once (some_uses before us e), λ before us n t once e. absurd (cc))
both o (word ∷ words) =
    let rest = both o words in
    (idle_back o word words rest.0 rest.1, waits_back o word words rest.0)

-- words that are read as uses spell them
pub read_back : (o : Options) (words : List Text) (us : List Use) → uses_in o words ≡ Some us → Spells o [] us words
unfolding IsDistinct
read_back o words us e = (both o words).0 [] us tt e

-- The lines of a text one by one, and labels one by one.
use Rattle.std.proofs.Common.{◌≡◌, ℕ, ◌+◌, ◌-◌, ◌<◌, ◌≤◌, ◌==◌, Bool, true, false, [], ◌∷◌, ◌++◌, length, Option, Some, None, is_some, Result, Ok, Err, refl, sym, ap, ◌∙◌, arith}
use Rattle.std.proofs.lemmas.Bool.Decides.{nat_tests}
use Rattle.sbpf_asm.specs.declared.fault.AsmFault.{AsmFault}
use Rattle.sbpf_asm.specs.declared.fault.AsmFault.TheVariants.{RepeatedLabel}
use Rattle.sbpf_asm.specs.Words.{Text, cut, is_line_feed, text_behind}
use Rattle.sbpf_asm.specs.Lines.{lines_of, without_last_empty}
use Rattle.spec_base.specs.Reading.{◌>>=◌}
use Rattle.std.specs.Prelude.{MatchBool}
use Rattle.sbpf_asm.specs.Assembly.{Source, is_asm_memory, with_label, with_line, with_lines}
use Rattle.sbpf_asm.proofs.Pieces.{split_cut, parts_after}

-- ---- lines

-- where a text is not cut, all of it stands before
uncut : (at : ℕ → Bool) (text : Text) → (cut at text).rest ≡ None → (cut at text).front ≡ text
uncut at [] h = refl
uncut at (b ∷ bs) h = go (uncut at bs) (at b) refl
  where
    go : ((cut at bs).rest ≡ None → (cut at bs).front ≡ bs) → (x : Bool) → at b ≡ x → (cut at (b ∷ bs)).front ≡ b ∷ bs
    go more true e = let k = rw e at h in absurd (cc)
    go more false e = rw e (ap (λ (t : Text). b ∷ t) (more (rw e at h)))

-- what follows a cut is shorter than the text
behind_within : (at : ℕ → Bool) (text : Text) → length (text_behind (cut at text).rest) ≤ length text - 1
behind_within at [] = omega arith
behind_within at (b ∷ bs) = go (behind_within at bs) (at b) refl
  where
    go : length (text_behind (cut at bs).rest) ≤ length bs - 1 → (x : Bool) → at b ≡ x → length (text_behind (cut at (b ∷ bs)).rest) ≤ length (b ∷ bs) - 1
    go more true e = rw e (omega arith)
    go more false e = rw e (omega arith)

pub behind_shorter : (at : ℕ → Bool) (text : Text) → 0 < length text → length (text_behind (cut at text).rest) < length text
behind_shorter at text h = omega (arith, behind_within at text)

pub no_empty : (n : ℕ) → 0 < n → (n == 0) ≡ false
no_empty n h = grind (arith, nat_tests)

-- the first line of a text, and the lines of what follows
pub line_cut : (text : Text) → 0 < length text → lines_of text ≡ (cut is_line_feed text).front ∷ lines_of (text_behind (cut is_line_feed text).rest)
line_cut text h = ap without_last_empty (split_cut is_line_feed text) ∙ go (cut is_line_feed text).rest refl
  where
    go : (rest : Option (ℕ × Text)) → (cut is_line_feed text).rest ≡ rest
        → without_last_empty ((cut is_line_feed text).front ∷ parts_after is_line_feed rest)
        ≡ (cut is_line_feed text).front ∷ lines_of (text_behind rest)
    go None e = rw (uncut is_line_feed text e, no_empty (length text) h) refl
    go (Some p) e = rw (split_cut is_line_feed p.1) refl

pub no_lines : (text : Text) → length text ≡ 0 → lines_of text ≡ []
no_lines [] h = refl
no_lines (b ∷ bs) h = absurd (omega arith)

-- with one line, and then with the others
pub lines_on : (n : ℕ) (s t : Source) (rest after line : Text) → lines_of rest ≡ line ∷ lines_of after
    → with_line n s line ≡ Ok t → with_lines n s (lines_of rest) ≡ with_lines (n + 1) t (lines_of after)
lines_on n s t rest after line e f = ap (with_lines n s) e ∙ ap (λ (r : Result Source AsmFault). r >>= (λ next. with_lines (n + 1) next (lines_of after))) f

-- a line that is refused, or for which there is no memory
pub lines_stop : (n : ℕ) (s : Source) (rest after line : Text) (e : AsmFault) (total : Result Source AsmFault) → lines_of rest ≡ line ∷ lines_of after → with_lines n s (lines_of rest) ≡ total
    → MatchBool (is_asm_memory e) (Unit {0}) (with_line n s line ≡ Err e) → MatchBool (is_asm_memory e) (Unit {0}) (total ≡ Err e)
lines_stop n s rest after line e total l t = go (is_asm_memory e)
  where
    go : (memory : Bool) → MatchBool memory (Unit {0}) (with_line n s line ≡ Err e) → MatchBool memory (Unit {0}) (total ≡ Err e)
    go true h = h
    go false h = sym t ∙ ap (with_lines n s) l ∙ ap (λ (r : Result Source AsmFault). r >>= (λ next. with_lines (n + 1) next (lines_of after))) h

-- ---- labels

pub repeated : (line : ℕ) (s : Source) (name : Text) (o : Option ℕ) → is_some o ≡ true → with_label line s name o ≡ Err (RepeatedLabel line)
repeated line s name None h = absurd (cc)
repeated line s name (Some place) h = refl

pub new_label : (line : ℕ) (s : Source) (name : Text) (o : Option ℕ) → is_some o ≡ false
    → with_label line s name o
    ≡ Ok (record s { labels = s.labels ++ (record { name = name; place = s.slots }) ∷ [] })
new_label line s name None h = refl
new_label line s name (Some place) h = absurd (cc)

pub none_there : {X : Type 0} → (o : Option X) → is_some o ≡ false → o ≡ None
none_there None h = refl
none_there (Some x) h = absurd (cc)

-- Where a text is cut, and its parts.
use Rattle.std.proofs.Common.{◌≡◌, ◌<◌, ◌≤◌, ◌+◌, ℕ, not, Bool, true, false, List, [], ◌∷◌, ◌++◌, length, take, drop, get_or, Option, Some, None, refl, sym, ap, ◌∙◌, reverse}
use Rattle.std.specs.List.{list_all, slice_split}
use Rattle.std.proofs.lemmas.Bool.{and_parts, not-true}
use Rattle.std.proofs.lemmas.List.Folds.{list_all-append}
use Rattle.std.proofs.lemmas.List.{drop_more, take_all, take-append-drop, reverse-append, reverse-reverse}
use Rattle.sbpf_asm.specs.Words.{Text, cut, is_blank, without_first_blanks, trim}

pub cut_none : (at : ℕ → Bool) (xs : Text) → list_all (λ b. not (at b)) xs ≡ true → cut at xs ≡ record { front = xs; rest = None }
cut_none at [] h = refl
cut_none at (x ∷ xs) h =
    let parts = and_parts (not (at x)) (list_all (λ b. not (at b)) xs) h in
    rw (not-true (at x) parts.0, cut_none at xs parts.1) refl

pub cut_here : (at : ℕ → Bool) (xs : Text) (b : ℕ) (ys : Text) → list_all (λ c. not (at c)) xs ≡ true → at b ≡ true → cut at (xs ++ b ∷ ys) ≡ record { front = xs; rest = Some (b, ys) }
cut_here at [] b ys h e = rw e refl
cut_here at (x ∷ xs) b ys h e =
    let parts = and_parts (not (at x)) (list_all (λ b. not (at b)) xs) h in
    rw (not-true (at x) parts.0, cut_here at xs b ys parts.1 e) refl

-- a text that is cut at the place i
pub cut_found : (at : ℕ → Bool) (text : Text) (i : ℕ) → i < length text
    → list_all (λ b. not (at b)) (take i text) ≡ true → at (get_or text i 0) ≡ true
    → cut at text ≡ record { front = take i text; rest = Some (get_or text i 0, drop (i + 1) text) }
cut_found at text i h none here =
    let parts : text ≡ take i text ++ get_or text i 0 ∷ drop (i + 1) text = sym (ap (λ (t : Text). take i text ++ t) (sym (drop_more text i 0 h)) ∙ take-append-drop i text) in
    ap (cut at) parts ∙ cut_here at (take i text) (get_or text i 0) (drop (i + 1) text) none here

pub cut_nowhere : (at : ℕ → Bool) (text : Text) (i : ℕ) → length text ≤ i → list_all (λ b. not (at b)) (take i text) ≡ true → cut at text ≡ record { front = text; rest = None }
cut_nowhere at text i h none = cut_none at text (rw (take_all i text h) at none)

-- the parts after a cut
abbrev pub parts_after : (ℕ → Bool) → Option (ℕ × Text) → List Text
parts_after at None = []
parts_after at (Some p) = slice_split at p.1

-- the parts of a text: what stands before the first cut, and the parts of what follows
pub split_cut : (at : ℕ → Bool) (text : Text) → slice_split at text ≡ (cut at text).front ∷ parts_after at (cut at text).rest
split_cut at [] = refl
split_cut at (b ∷ bs) = go (split_cut at bs) (at b) refl
  where
    go : slice_split at bs ≡ (cut at bs).front ∷ parts_after at (cut at bs).rest → (x : Bool) → at b ≡ x → slice_split at (b ∷ bs) ≡ (cut at (b ∷ bs)).front ∷ parts_after at (cut at (b ∷ bs)).rest
    go more true e = rw e refl
    go more false e = rw (e, more) refl

-- the parts of a text that is put together
pub split_none : (at : ℕ → Bool) (xs : Text) → list_all (λ b. not (at b)) xs ≡ true → slice_split at xs ≡ xs ∷ []
split_none at xs h = split_cut at xs ∙ rw (cut_none at xs h) refl

pub split_here : (at : ℕ → Bool) (xs : Text) (b : ℕ) (ys : Text) → list_all (λ c. not (at c)) xs ≡ true → at b ≡ true → slice_split at (xs ++ b ∷ ys) ≡ xs ∷ slice_split at ys
split_here at xs b ys h e = split_cut at (xs ++ b ∷ ys) ∙ rw (cut_here at xs b ys h e) refl

pub all_append : (p : ℕ → Bool) (xs ys : Text) → list_all p xs ≡ true → list_all p ys ≡ true → list_all p (xs ++ ys) ≡ true
all_append p xs ys h k = rw (list_all-append, h, k) refl

-- the text begins and ends with a byte that is no blank
pub record Framed (text : Text) : Type 0 where
  pub first : ℕ
  pub after : Text
  pub begins : text ≡ first ∷ after
  pub no_blank : is_blank first ≡ false
  pub before : Text
  pub last : ℕ
  pub ends : text ≡ before ++ last ∷ []
  pub no_blank_last : is_blank last ≡ false

kept : (b : ℕ) (bs : Text) → is_blank b ≡ false → without_first_blanks (b ∷ bs) ≡ b ∷ bs
kept b bs e = rw e refl

pub trim_framed : (text : Text) → Framed text → trim text ≡ text
trim_framed text f =
    let first : without_first_blanks text ≡ text = rw f.begins (kept f.first f.after f.no_blank) in
    let turned : reverse text ≡ f.last ∷ reverse f.before = ap reverse f.ends ∙ reverse-append f.before (f.last ∷ []) in
    let second : without_first_blanks (reverse text) ≡ reverse text = rw turned (kept f.last (reverse f.before) f.no_blank_last) in
    ap (λ (t : Text). reverse (without_first_blanks (reverse t))) first ∙ ap reverse second ∙ reverse-reverse text

-- What an output takes, piece by piece.
use Rattle.std.proofs.Common.{◌≡◌, ◌<◌, ◌+◌, ℕ, List, [], ◌∷◌, ◌++◌, length, take, get_or, sym, subst, ap, ◌∙◌, append_assoc}
use Rattle.std.specs.List.{flat_map}
use Rattle.std.proofs.lemmas.List.{append-nil, take_more}
use Rattle.std.proofs.lemmas.Grind.{flat_map-append}
use Rattle.format_fields.specs.Output.{Adds}

pub Adds-none : {O : Type 0} (holds : O → List ℕ → Type 0) (out : O) → Adds holds out out []
Adds-none holds out = record { after = λ taken h. subst (holds out) (sym (append-nil taken)) h }

pub Adds-then : {O : Type 0} {holds : O → List ℕ → Type 0} {a b c : O} {x y : List ℕ} → Adds holds a b x → Adds holds b c y → Adds holds a c (x ++ y)
Adds-then {holds = holds} {c = c} {x = x} {y = y} first second = record { after = λ taken h. subst (holds c) (append_assoc taken x y) (second.after (taken ++ x) (first.after taken h)) }

pub Adds-as : {O : Type 0} {holds : O → List ℕ → Type 0} {a b : O} {x y : List ℕ} → Adds holds a b x → x ≡ y → Adds holds a b y
Adds-as {holds = holds} {a = a} {b = b} adds e = subst (Adds holds a b) e adds

-- the spellings of the first items, and of one more
pub flat_map-more : {X : Type 0} (f : X → List ℕ) (xs : List X) (i : ℕ) (d : X) → i < length xs → flat_map f (take (i + 1) xs) ≡ flat_map f (take i xs) ++ f (get_or xs i d)
flat_map-more f xs i d lt = ap (flat_map f) (take_more xs i d lt)
    ∙ flat_map-append f (take i xs) (get_or xs i d ∷ [])
    ∙ ap (λ (l : List ℕ). flat_map f (take i xs) ++ l) (append-nil (f (get_or xs i d)))

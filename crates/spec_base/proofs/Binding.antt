-- Readings in a row, and choices between them.
use Rattle.std.proofs.Common.{◌≡◌, ◌<◌, ℕ, zero, suc, lit<, List, [], ◌∷◌, ◌++◌, length, take, drop, Result, Ok, Err, Bool, true, false, cond, ◌⊎◌, inl, inr, refl, sym, ap, subst, ◌∙◌, append_assoc, arith}
use Rattle.std.specs.Prelude.{nat_eq}
use Rattle.std.proofs.lemmas.Bool.Decides.{nat_tests}
use Rattle.std.proofs.lemmas.List.{take-append-drop}
use Rattle.spec_base.specs.Bytes.{IsBytes}
use Rattle.spec_base.specs.Reading.{◌>>=◌, place, ok_if, whole}

-- what gave a value in the end gave one at first
pub bind_ok : {A B E : Type 0} (r : Result A E) (f : A → Result B E) (y : B) → (r >>= f) ≡ Ok y → (x : A) × (r ≡ Ok x) × (f x ≡ Ok y)
bind_ok (Ok x) f y h = (x, refl, h)
bind_ok (Err e) f y h = absurd (cc)

-- which way a choice went
pub chosen : {X : Type 0} (b : Bool) (x y z : X) → cond b x y ≡ z → ((b ≡ true) × (x ≡ z)) ⊎ ((b ≡ false) × (y ≡ z))
chosen true x y z h = inl (refl, h)
chosen false x y z h = inr (refl, h)

-- a test that was passed
pub ok_if_true : {X E : Type 0} (test : Bool) (e : E) (x y : X) → ok_if test e x ≡ Ok y → (test ≡ true) × (x ≡ y)
ok_if_true true e x y h = (refl, cc)
ok_if_true false e x y h = absurd (cc)

-- an answer is no refusal
pub not_refused : {A E : Type 0} {e : E} {a : A} → (let l : Result A E = Err e in l) ≡ Ok a → ⊥
not_refused h = cc

-- one answer has one value
pub ok_same : {A E : Type 0} (a c : A) → (let l : Result A E = Ok a in l) ≡ Ok c → a ≡ c
ok_same a c h = cc

-- a value and what follows it
pub ok_parts : {A E : Type 0} (a c : A) (b d : List ℕ) → (let l : Result (A × List ℕ) E = Ok (a, b) in l) ≡ Ok (c, d) → (a ≡ c) × (b ≡ d)
ok_parts {A = A} a c b d h =
    let e : (let p : A × List ℕ = (a, b) in p) ≡ (c, d) = cc in
    (ap (λ (p : A × List ℕ). p.0) e, ap (λ (p : A × List ℕ). p.1) e)

-- a spelling whose rest is spelled on
pub onward : (front : List ℕ) {bytes after rest : List ℕ} → bytes ≡ front ++ after → after ≡ rest → bytes ≡ front ++ rest
onward front e f = e ∙ ap (λ (l : List ℕ). front ++ l) f

-- one part after another
pub follows : (front next rest : List ℕ) {bytes after : List ℕ} → bytes ≡ front ++ after → after ≡ next ++ rest → bytes ≡ front ++ next ++ rest
follows front next rest e f = onward front e f ∙ sym (append_assoc front next rest)

rest_bytes : (front rest : List ℕ) → IsBytes (front ++ rest) → IsBytes rest
rest_bytes [] rest h = h
rest_bytes (b ∷ bs) rest h = rest_bytes bs rest (λ i. h (suc i))

-- what follows in a list of bytes is a list of bytes
pub after_bytes : (bytes front rest : List ℕ) → IsBytes bytes → bytes ≡ front ++ rest → IsBytes rest
after_bytes bytes front rest h e = rest_bytes front rest (subst IsBytes e h)

first_or_later : (b : ℕ) (bs : List ℕ) → b < 256 → IsBytes bs → IsBytes (b ∷ bs)
first_or_later b bs h later zero = h
first_or_later b bs h later (suc i) = later i

-- and so is what stands before it
pub before_bytes : (front rest : List ℕ) → IsBytes (front ++ rest) → IsBytes front
before_bytes [] rest h = λ i. lit< tt
before_bytes (b ∷ bs) rest h = first_or_later b bs (h 0) (before_bytes bs rest (λ j. h (suc j)))

-- and so is a part of it
pub part_bytes : (n k : ℕ) (bytes : List ℕ) → IsBytes bytes → IsBytes (take n (drop k bytes))
part_bytes n k bytes are =
    before_bytes (take n (drop k bytes)) (drop n (drop k bytes))
    (subst IsBytes (sym (take-append-drop n (drop k bytes))) (after_bytes bytes (take k bytes) (drop k bytes) are (sym (take-append-drop k bytes))))

-- what was read as the whole text has nothing after it
pub whole_ok : {X E : Type 0} (trailing : ℕ → E) (total : ℕ) (x : X) (rest : List ℕ) (y : X) → whole trailing total (x, rest) ≡ Ok y → (rest ≡ []) × (x ≡ y)
whole_ok trailing total x rest y h = let t = ok_if_true (nat_eq (length rest) 0) (trailing (place total rest)) x y h in (none rest t.0, t.1)
  where
    none : (rest : List ℕ) → nat_eq (length rest) 0 ≡ true → rest ≡ []
    none [] e = refl
    none (b ∷ bs) e = absurd (grind (arith, nat_tests))

-- A cause and its code belong together.
use Rattle.std.proofs.Common.{◌≡◌, ◌<◌, ◌+◌, ◌^◌, ℕ, zero, suc, Bool, true, ◌&&◌, List, [], ◌∷◌, Some, refl, ap, lit<, ◌∙◌, sym, arith}
use Rattle.std.specs.Prelude.{nat_eq, slice_get}
use Rattle.std.proofs.lemmas.Bool.{and_parts, eqb-true}
use Rattle.tx_report.specs.declared.cause.Cause.{Cause}
use Rattle.tx_report.specs.declared.cause.Cause.TheVariants.{Custom}
use Rattle.tx_report.specs.declared.cause.DropCause.{DropCause}
use Rattle.tx_report.specs.declared.cause.DropCause.TheVariants.{PayerAbsent}
use Rattle.tx_report.specs.Causes.{code_of, cause_with, drop_code_of, drop_cause_with, numbered, causes, drop_causes}

-- each code fits its field
pub code_of-fits : (cause : Cause) → code_of cause < 2 ^ 16
code_of-fits Custom = lit< tt
code_of-fits _ = lit< tt

pub drop_code_of-fits : (cause : DropCause) → drop_code_of cause < 2 ^ 16
drop_code_of-fits PayerAbsent = lit< tt
drop_code_of-fits _ = lit< tt

-- the code of a cause gives it back
pub cause_with-code_of : (cause : Cause) → cause_with (code_of cause) ≡ Some cause
cause_with-code_of Custom = refl
cause_with-code_of _ = refl

pub drop_cause_with-code_of : (cause : DropCause) → drop_cause_with (drop_code_of cause) ≡ Some cause
drop_cause_with-code_of PayerAbsent = refl
drop_cause_with-code_of _ = refl

-- the codes of a list go up by one, from a first one on
abbrev counts_up : {X : Type 0} → (X → ℕ) → ℕ → List X → Bool
counts_up code first [] = true
counts_up code first (x ∷ xs) = nat_eq (code x) first && counts_up code (suc first) xs

counted : {X : Type 0} (code : X → ℕ) (xs : List X) (first k : ℕ) (x : X) → counts_up code first xs ≡ true → slice_get xs k ≡ Some x → code x ≡ first + k
counted code [] first k x up found = absurd (cc)
counted code (y ∷ xs) first zero x up found =
    let parts = and_parts (nat_eq (code y) first) (counts_up code (suc first) xs) up in
    let here : code y ≡ first = eqb-true _ _ parts.0 in
    let same : y ≡ x = cc in
    ap code (sym same) ∙ here ∙ omega arith
counted code (y ∷ xs) first (suc k) x up found =
    let parts = and_parts (nat_eq (code y) first) (counts_up code (suc first) xs) up in
    let later : code x ≡ suc first + k = counted code xs (suc first) k x parts.1 found in
    omega arith

numbered_code : {X : Type 0} (code : X → ℕ) (xs : List X) (number : ℕ) (x : X) → counts_up code 1 xs ≡ true → numbered xs number ≡ Some x → code x ≡ number
numbered_code code xs zero x up found = absurd (cc)
numbered_code code xs (suc k) x up found =
    let e : code x ≡ 1 + k = counted code xs 1 k x up found in
    omega arith

-- what is found for a code has that code
pub code_of-cause_with : (code : ℕ) (cause : Cause) → cause_with code ≡ Some cause → code_of cause ≡ code
code_of-cause_with code cause found = numbered_code code_of causes code cause refl found

pub drop_code_of-drop_cause_with : (code : ℕ) (cause : DropCause) → drop_cause_with code ≡ Some cause → drop_code_of cause ≡ code
drop_code_of-drop_cause_with code cause found = numbered_code drop_code_of drop_causes code cause refl found

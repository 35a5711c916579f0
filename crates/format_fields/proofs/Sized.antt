-- A number that tells a size, and then what has that size.
use Rattle.std.proofs.Common.{◌≡◌, ◌<◌, ◌≤◌, ◌^◌, ℕ, List, ◌++◌, length, Result, Ok, true, refl, sym, subst, ◌∙◌, append_assoc, arith}
use Rattle.std.specs.Prelude.{nat_le}
use Rattle.std.proofs.lemmas.Bool.Decides.{nat_tests}
use Rattle.spec_base.specs.Bytes.{IsBytes}
use Rattle.spec_base.specs.Reading.{◌>>=◌, field_at}
use Rattle.spec_base.proofs.Formats.{Reads, taken, field_reads}

module _ {X E : Type 0} {count : List ℕ → Result (ℕ × List ℕ) E} {number : ℕ → List ℕ} {Few : ℕ → Type 0}
    {items : ℕ → List ℕ → Result (X × List ℕ) E} {spell : X → List ℕ} {Fits : X → Type 0} (size : X → ℕ) where
  again : Reads count number Few → ((n : ℕ) → Reads (items n) spell (λ x. (size x ≡ n) × Fits x))
      → (x : X) (rest : List ℕ) → Few (size x) × Fits x → (count ((number (size x) ++ spell x) ++ rest) >>= λ c. items c.0 c.1) ≡ Ok (x, rest)
  again counts things x rest h =
      rw (append_assoc (number (size x)) (spell x) rest, counts.again (size x) (spell x ++ rest) h.0) ((things (size x)).again x rest (refl, h.1))

  takes : Reads count number Few → ((n : ℕ) → Reads (items n) spell (λ x. (size x ≡ n) × Fits x))
      → (bytes : List ℕ) (x : X) (rest : List ℕ) → IsBytes bytes → (count bytes >>= λ c. items c.0 c.1) ≡ Ok (x, rest) → (Few (size x) × Fits x) × (bytes ≡ (number (size x) ++ spell x) ++ rest)
  takes counts things bytes x rest are h =
      let t = taken counts (λ c. items c.0 c.1) bytes (x, rest) are h in
      let f = (things t.value).takes t.rest x rest t.are_bytes t.goes_on in
      ((subst Few (sym f.0.0) t.fits, f.0.1), t.spelled ∙ rw (f.1, ← f.0.0) (sym (append_assoc (number (size x)) (spell x) rest)))

  pub sized_reads : Reads count number Few → ((n : ℕ) → Reads (items n) spell (λ x. (size x ≡ n) × Fits x))
      → Reads (λ bytes. count bytes >>= λ c. items c.0 c.1) (λ x. number (size x) ++ spell x) (λ x. Few (size x) × Fits x)
  sized_reads counts things = record { again = again counts things; takes = takes counts things }

-- a number of four bytes that is at most so much
abbrev pub IsCount : ℕ → ℕ → Type 0
IsCount most n = (n < 2 ^ 32) × (nat_le n most ≡ true)

pub count_fits : (most n : ℕ) → most < 2 ^ 32 → n ≤ most → IsCount most n
count_fits most n small le = (omega arith, grind (arith, nat_tests))

pub count_le : (most n : ℕ) → IsCount most n → n ≤ most
count_le most n h = let t = h.1 in grind (arith, nat_tests)

-- a field of as many bytes as the number tells
pub sized_field_reads : {E : Type 0} (truncated : ℕ → E) (total n : ℕ) → Reads (field_at truncated total n) (λ field. field) (λ field. (length field ≡ n) × Unit {0})
sized_field_reads truncated total n = record {
  again = λ field rest h. (field_reads truncated total n).again field rest h.0;
  takes = λ bytes field rest are h. let t = (field_reads truncated total n).takes bytes field rest are h in ((t.0, tt), t.1);
}

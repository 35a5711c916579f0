-- The parts of a wire: what is spelled is read again, and what is read is spelled so.
use Rattle.std.proofs.Common.{◌≡◌, ◌<◌, ◌≤◌, ℕ, List, [], ◌∷◌, ◌++◌, length, Ok, refl, sym, ap, subst, ◌∙◌, append_assoc, arith}
use Rattle.std.specs.Prelude.{slice_index}
use Rattle.std.specs.List.{flat_map, AllByRecursion}
use Rattle.spec_base.specs.Bytes.{IsBytes}
use Rattle.spec_base.proofs.Binding.{ok_parts, onward, follows}
use Rattle.spec_base.proofs.Formats.{Reads, taken, field_reads, byte_reads, read_as_reads, many_reads}
use Rattle.sol_base.specs.Keys.{IsKey, key_bytes}
use Rattle.format_fields.proofs.FieldLaws.{key_reads}
use Rattle.message_codec.specs.declared.fault.WireFault.TheVariants.{Truncated}
use Rattle.message_codec.specs.declared.message.Signature.{Signature}
use Rattle.message_codec.specs.declared.message.Header.{Header}
use Rattle.message_codec.specs.declared.message.Instruction.{Instruction}
use Rattle.message_codec.specs.declared.message.Lookup.{Lookup}
use Rattle.message_codec.specs.Compact.{compact, max_count}
use Rattle.message_codec.specs.Wire.{array_bytes, blob_bytes, signature_bytes, header_bytes, instruction_bytes, lookup_bytes, IsCountable}
use Rattle.message_codec.specs.WireReading.{Read, array_at, blob_at, signature_at, header_at, instruction_at, lookup_at}
use Rattle.message_codec.proofs.Lengths.{length_reads}

-- arrays

blob_again : (total : ℕ) (blob rest : List ℕ) → IsCountable blob → blob_at total (blob_bytes blob ++ rest) ≡ Ok (blob, rest)
unfolding blob_at
blob_again total blob rest short =
    rw (append_assoc (compact (length blob)) blob rest, (length_reads total).again (length blob) (blob ++ rest) short) ((field_reads Truncated total (length blob)).again blob rest refl)

blob_takes : (total : ℕ) (bytes blob rest : List ℕ) → IsBytes bytes → blob_at total bytes ≡ Ok (blob, rest) → IsCountable blob × (bytes ≡ blob_bytes blob ++ rest)
unfolding blob_at
blob_takes total bytes blob rest are h =
    let t = taken (length_reads total) _ bytes (blob, rest) are h in
    let f = (field_reads Truncated total t.value).takes t.rest blob rest t.are_bytes t.goes_on in
    (subst (λ n. n ≤ max_count) (sym f.0) t.fits, t.spelled ∙ rw (f.1, ← f.0) (sym (append_assoc (compact (length blob)) blob rest)))

pub blob_reads : (total : ℕ) → Reads (blob_at total) blob_bytes IsCountable
blob_reads total = record { again = blob_again total; takes = blob_takes total }

array_again : {X : Type 0} (one : ℕ → List ℕ → Read X) {spell : X → List ℕ} {Fits : X → Type 0} (total : ℕ) → Reads (one total) spell Fits
    → (xs : List X) (rest : List ℕ) → IsCountable xs × AllByRecursion Fits xs → array_at one total (array_bytes spell xs ++ rest) ≡ Ok (xs, rest)
unfolding array_at
array_again one {spell = spell} total reads xs rest h =
    rw (append_assoc (compact (length xs)) (flat_map spell xs) rest, (length_reads total).again (length xs) (flat_map spell xs ++ rest) h.0) ((many_reads reads (length xs)).again xs rest (refl, h.1))

array_takes : {X : Type 0} (one : ℕ → List ℕ → Read X) {spell : X → List ℕ} {Fits : X → Type 0} (total : ℕ) → Reads (one total) spell Fits
    → (bytes : List ℕ) (xs : List X) (rest : List ℕ) → IsBytes bytes → array_at one total bytes ≡ Ok (xs, rest) → (IsCountable xs × AllByRecursion Fits xs) × (bytes ≡ array_bytes spell xs ++ rest)
unfolding array_at
array_takes one {spell = spell} total reads bytes xs rest are h =
    let t = taken (length_reads total) _ bytes (xs, rest) are h in
    let f = (many_reads reads t.value).takes t.rest xs rest t.are_bytes t.goes_on in
    ((subst (λ n. n ≤ max_count) (sym f.0.0) t.fits, f.0.1), t.spelled ∙ rw (f.1, ← f.0.0) (sym (append_assoc (compact (length xs)) (flat_map spell xs) rest)))

pub array_reads : {X : Type 0} (one : ℕ → List ℕ → Read X) {spell : X → List ℕ} {Fits : X → Type 0} (total : ℕ) → Reads (one total) spell Fits
    → Reads (array_at one total) (array_bytes spell) (λ xs. IsCountable xs × AllByRecursion Fits xs)
array_reads one total reads = record { again = array_again one total reads; takes = array_takes one total reads }

-- signatures

pub signature_reads : (total : ℕ) → Reads (signature_at total) signature_bytes (λ signature. length signature.0 ≡ 64)
signature_reads total = read_as_reads
    (λ (field : List ℕ). let signature : Signature = record { 0 = field } in signature)
    (λ signature. signature.0) (λ _. refl) (λ _. refl) (field_reads Truncated total 64)

-- instructions

pub record InstructionFits (instruction : Instruction) : Type 0 where
  pub program : instruction.program < 256
  pub accounts : IsCountable instruction.accounts
  pub input : IsCountable instruction.input

instruction_again : (total : ℕ) (instruction : Instruction) (rest : List ℕ) → InstructionFits instruction → instruction_at total (instruction_bytes instruction ++ rest) ≡ Ok (instruction, rest)
unfolding instruction_at
instruction_again total i rest fits =
    let front : instruction_bytes i ++ rest ≡ i.program ∷ [] ++ (blob_bytes i.accounts ++ (blob_bytes i.input ++ rest)) = simp append_assoc in
    subst (λ (l : List ℕ). instruction_at total l ≡ Ok (i, rest)) (sym front)
    (rw (
      (byte_reads Truncated total).again i.program (blob_bytes i.accounts ++ (blob_bytes i.input ++ rest)) fits.program,
      blob_again total i.accounts (blob_bytes i.input ++ rest) fits.accounts,
      blob_again total i.input rest fits.input,
    ) refl)

instruction_takes : (total : ℕ) (bytes : List ℕ) (instruction : Instruction) (rest : List ℕ) → IsBytes bytes → instruction_at total bytes ≡ Ok (instruction, rest)
    → InstructionFits instruction × (bytes ≡ instruction_bytes instruction ++ rest)
unfolding instruction_at
instruction_takes total bytes instruction rest are h =
    let a = taken (byte_reads Truncated total) _ bytes (instruction, rest) are h in
    let b = taken (blob_reads total) _ a.rest (instruction, rest) a.are_bytes a.goes_on in
    let c = taken (blob_reads total) _ b.rest (instruction, rest) b.are_bytes b.goes_on in
    let p = ok_parts _ _ _ _ c.goes_on in
    subst (λ (v : Instruction). InstructionFits v × (bytes ≡ instruction_bytes v ++ rest)) p.0 (
      record { program = a.fits; accounts = b.fits; input = c.fits },
      follows (a.value ∷ blob_bytes b.value)
          (blob_bytes c.value) rest (follows (a.value ∷ []) (blob_bytes b.value) b.rest a.spelled b.spelled)
          (onward (blob_bytes c.value) c.spelled p.1),
    )

pub instruction_reads : (total : ℕ) → Reads (instruction_at total) instruction_bytes InstructionFits
instruction_reads total = record { again = instruction_again total; takes = instruction_takes total }

-- lookups

pub record LookupFits (lookup : Lookup) : Type 0 where
  pub table : IsKey lookup.table
  pub writable : IsCountable lookup.writable
  pub readonly : IsCountable lookup.readonly

lookup_again : (total : ℕ) (lookup : Lookup) (rest : List ℕ) → LookupFits lookup → lookup_at total (lookup_bytes lookup ++ rest) ≡ Ok (lookup, rest)
unfolding lookup_at
lookup_again total l rest fits =
    let front : lookup_bytes l ++ rest ≡ key_bytes l.table ++ (blob_bytes l.writable ++ (blob_bytes l.readonly ++ rest)) = simp append_assoc in
    subst (λ (b : List ℕ). lookup_at total b ≡ Ok (l, rest)) (sym front)
    (rw (
      (key_reads Truncated total).again l.table (blob_bytes l.writable ++ (blob_bytes l.readonly ++ rest)) fits.table,
      blob_again total l.writable (blob_bytes l.readonly ++ rest) fits.writable,
      blob_again total l.readonly rest fits.readonly,
    ) refl)

lookup_takes : (total : ℕ) (bytes : List ℕ) (lookup : Lookup) (rest : List ℕ) → IsBytes bytes → lookup_at total bytes ≡ Ok (lookup, rest)
    → LookupFits lookup × (bytes ≡ lookup_bytes lookup ++ rest)
unfolding lookup_at
lookup_takes total bytes lookup rest are h =
    let a = taken (key_reads Truncated total) _ bytes (lookup, rest) are h in
    let b = taken (blob_reads total) _ a.rest (lookup, rest) a.are_bytes a.goes_on in
    let c = taken (blob_reads total) _ b.rest (lookup, rest) b.are_bytes b.goes_on in
    let p = ok_parts _ _ _ _ c.goes_on in
    subst (λ (v : Lookup). LookupFits v × (bytes ≡ lookup_bytes v ++ rest)) p.0 (
      record { table = a.fits; writable = b.fits; readonly = c.fits },
      follows
          (key_bytes a.value ++ blob_bytes b.value) (blob_bytes c.value) rest
          (follows (key_bytes a.value) (blob_bytes b.value) b.rest a.spelled b.spelled)
          (onward (blob_bytes c.value) c.spelled p.1),
    )

pub lookup_reads : (total : ℕ) → Reads (lookup_at total) lookup_bytes LookupFits
lookup_reads total = record { again = lookup_again total; takes = lookup_takes total }

-- headers

pub record HeaderFits (header : Header) : Type 0 where
  pub required : header.required < 256
  pub readonly_signed : header.readonly_signed < 256
  pub readonly_unsigned : header.readonly_unsigned < 256

pub header_again : (total : ℕ) (header : Header) (rest : List ℕ) → HeaderFits header → header_at total (header_bytes header ++ rest) ≡ Ok (header, rest)
unfolding header_at
header_again total header rest fits = rw ((field_reads Truncated total 3).again (header_bytes header) rest refl) refl

three_bytes : (field : List ℕ) → length field ≡ 3 → field ≡ slice_index field 0 ∷ slice_index field 1 ∷ slice_index field 2 ∷ []
three_bytes [] h = absurd (omega arith)
three_bytes (a ∷ []) h = absurd (omega arith)
three_bytes (a ∷ b ∷ []) h = absurd (omega arith)
three_bytes (a ∷ b ∷ c ∷ []) h = refl
three_bytes (a ∷ b ∷ c ∷ d ∷ ds) h = absurd (omega arith)

header_takes : (total : ℕ) (bytes : List ℕ) (header : Header) (rest : List ℕ) → IsBytes bytes → header_at total bytes ≡ Ok (header, rest)
    → HeaderFits header × (bytes ≡ header_bytes header ++ rest)
unfolding header_at
header_takes total bytes header rest are h =
    let a = taken (field_reads Truncated total 3) _ bytes (header, rest) are h in
    let p = ok_parts _ _ _ _ a.goes_on in
    let spelled : bytes ≡ header_bytes (record { required = slice_index a.value 0; readonly_signed = slice_index a.value 1; readonly_unsigned = slice_index a.value 2 }) ++ rest =
    onward (slice_index a.value 0 ∷ slice_index a.value 1 ∷ slice_index a.value 2 ∷ []) (a.spelled ∙ ap (λ (l : List ℕ). l ++ a.rest) (three_bytes a.value a.fits)) p.1 in
    let whole : bytes ≡ header_bytes header ++ rest = subst (λ (v : Header). bytes ≡ header_bytes v ++ rest) p.0 spelled in
    (record { required = byte 0 whole; readonly_signed = byte 1 whole; readonly_unsigned = byte 2 whole }, whole)
  where
    byte : (i : ℕ) → bytes ≡ header_bytes header ++ rest → slice_index (header_bytes header ++ rest) i < 256
    byte i e = subst (λ (l : List ℕ). slice_index l i < 256) e (are i)

pub header_reads : (total : ℕ) → Reads (header_at total) header_bytes HeaderFits
header_reads total = record { again = header_again total; takes = header_takes total }

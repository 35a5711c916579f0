-- A status and its bytes belong together.
use Rattle.std.proofs.Common.{◌≡◌, ◌<◌, ◌^◌, ℕ, zero, suc, true, ◌&&◌, inl, inr, List, [], ◌∷◌, ◌++◌, length, take, drop, Option, Some, None, refl, ap, subst, lit<, ◌∙◌, sym, arith}
use Rattle.std.specs.Prelude.{nat_eq, slice_index, option_map, ok_or, Ok}
use Rattle.std.specs.Int.{w16, w32, to_le_bytes, from_le_bytes}
use Rattle.std.proofs.lemmas.Bool.{and_parts, eqb-true}
use Rattle.std.proofs.lemmas.Nat.{from_le_bytes-to_le_bytes_2, from_le_bytes-to_le_bytes_4, le_bytes_2, le_bytes_4}
use Rattle.spec_base.specs.Bytes.{IsBytes}
use Rattle.spec_base.specs.Reading.{place}
use Rattle.spec_base.proofs.Binding.{chosen, bind_ok, ok_parts, before_bytes}
use Rattle.spec_base.proofs.Formats.{Reads, taken, field_reads}
use Rattle.tx_report.specs.declared.cause.Cause.{Cause}
use Rattle.tx_report.specs.declared.cause.DropCause.{DropCause}
use Rattle.tx_report.specs.declared.status.Status.{Status}
use Rattle.tx_report.specs.declared.status.Status.TheVariants.{Good, Failed, Dropped}
use Rattle.tx_report.specs.Causes.{code_of, cause_with, drop_code_of, drop_cause_with}
use Rattle.tx_report.specs.Statuses.{part_bytes, status_bytes_of, IsStatus, status_with, status_from, status_at}
use Rattle.tx_report.proofs.CauseLaws.{code_of-fits, drop_code_of-fits, cause_with-code_of, drop_cause_with-code_of, code_of-cause_with, drop_code_of-drop_cause_with}

-- the parts that stand in the eight bytes
status_from-part_bytes : (kind index code detail : ℕ) → code < 2 ^ 16 → detail < 2 ^ 32 → status_from (part_bytes kind index code detail) ≡ status_with kind index code detail
status_from-part_bytes kind index code detail code_fits detail_fits =
    ap (λ (c : ℕ). status_with kind index c (from_le_bytes w32 (to_le_bytes w32 detail))) (from_le_bytes-to_le_bytes_2 code code_fits)
    ∙ ap (λ (d : ℕ). status_with kind index code d) (from_le_bytes-to_le_bytes_4 detail detail_fits)

-- what is written is read again
pub status_from-status_bytes_of : (status : Status) → IsStatus status → status_from (status_bytes_of status) ≡ Some status
status_from-status_bytes_of Good fits = refl
status_from-status_bytes_of (Failed index cause detail) fits =
    status_from-part_bytes 1 index (code_of cause) detail (code_of-fits cause) fits.1
    ∙ ap (option_map (λ (c : Cause). Failed index c detail)) (cause_with-code_of cause)
status_from-status_bytes_of (Dropped cause) fits =
    status_from-part_bytes 2 0 (drop_code_of cause) 0 (drop_code_of-fits cause) (lit< tt)
    ∙ ap (option_map (λ (c : DropCause). Dropped c)) (drop_cause_with-code_of cause)

mapped_some : {A B : Type 0} (f : A → B) (o : Option A) (y : B) → option_map f o ≡ Some y → (x : A) × (o ≡ Some x) × (f x ≡ y)
mapped_some f (Some x) y h = (x, refl, cc)
mapped_some f None y h = absurd (cc)

same_parts : (k k' i i' c c' d d' : ℕ) → k ≡ k' → i ≡ i' → c ≡ c' → d ≡ d' → part_bytes k i c d ≡ part_bytes k' i' c' d'
same_parts k k' i i' c c' d d' ek ei ec ed = rw (ek, ei, ec, ed) refl

-- the parts of a status that was found for them
found_parts : (kind index code detail : ℕ) (status : Status) → status_with kind index code detail ≡ Some status
    → index < 256 → detail < 2 ^ 32
    → IsStatus status × (part_bytes kind index code detail ≡ status_bytes_of status)
found_parts kind index code detail status h index_fits detail_fits =
    elim (chosen (nat_eq kind 0 && nat_eq index 0 && nat_eq code 0 && nat_eq detail 0) (Some Good) _ (Some status) h) [
      | inl p ↦ good p.0 p.1
      | inr p ↦ elim (chosen (nat_eq kind 1) (option_map (λ (c : Cause). Failed index c detail) (cause_with code)) _ (Some status) p.1) [
        | inl q ↦ failed q.0 (mapped_some (λ (c : Cause). Failed index c detail) (cause_with code) status q.1)
        | inr q ↦ elim (chosen (nat_eq kind 2 && nat_eq index 0 && nat_eq detail 0) (option_map (λ (c : DropCause). Dropped c) (drop_cause_with code)) None (Some status) q.1) [
          | inl r ↦ dropped r.0 (mapped_some (λ (c : DropCause). Dropped c) (drop_cause_with code) status r.1)
          | inr r ↦ absurd (let e : (let o : Option Status = None in o) ≡ Some status = r.1 in cc)
        ]
      ]
    ]
  where
    Claim : Status → Type 0
    Claim s = IsStatus s × (part_bytes kind index code detail ≡ status_bytes_of s)

    good : (nat_eq kind 0 && nat_eq index 0 && nat_eq code 0 && nat_eq detail 0) ≡ true → (let o : Option Status = Some Good in o) ≡ Some status → Claim status
    good t e =
        let a = and_parts (nat_eq kind 0 && nat_eq index 0 && nat_eq code 0) (nat_eq detail 0) t in
        let b = and_parts (nat_eq kind 0 && nat_eq index 0) (nat_eq code 0) a.0 in
        let c = and_parts (nat_eq kind 0) (nat_eq index 0) b.0 in
        let same : Good ≡ status = cc in
        subst Claim same (tt, same_parts kind 0 index 0 code 0 detail 0 (eqb-true _ _ c.0) (eqb-true _ _ c.1) (eqb-true _ _ b.1) (eqb-true _ _ a.1))

    failed : nat_eq kind 1 ≡ true → (c : Cause) × (cause_with code ≡ Some c) × (Failed index c detail ≡ status) → Claim status
    failed t f = subst Claim f.2 ((index_fits, detail_fits), same_parts kind 1 index index code (code_of f.0) detail detail (eqb-true _ _ t) refl (sym (code_of-cause_with code f.0 f.1)) refl)

    dropped : (nat_eq kind 2 && nat_eq index 0 && nat_eq detail 0) ≡ true → (c : DropCause) × (drop_cause_with code ≡ Some c) × (Dropped c ≡ status) → Claim status
    dropped t f =
        let a = and_parts (nat_eq kind 2 && nat_eq index 0) (nat_eq detail 0) t in
        let b = and_parts (nat_eq kind 2) (nat_eq index 0) a.0 in
        subst Claim f.2 (tt, same_parts kind 2 index 0 code (drop_code_of f.0) detail 0 (eqb-true _ _ b.0) (eqb-true _ _ b.1) (sym (drop_code_of-drop_cause_with code f.0 f.1)) (eqb-true _ _ a.1))

-- a list of eight bytes is the spelling of the parts that stand in it
eight : (bytes : List ℕ) → length bytes ≡ 8 → IsBytes bytes
    → part_bytes (slice_index bytes 0) (slice_index bytes 1) (from_le_bytes w16 (take 2 (drop 2 bytes)))
    (from_le_bytes w32 (take 4 (drop 4 bytes))) ≡ bytes
eight (k ∷ i ∷ c ∷ d ∷ w ∷ x ∷ y ∷ z ∷ []) long are =
    ap (λ (front : List ℕ). k ∷ i ∷ [] ++ front ++ to_le_bytes w32 (from_le_bytes w32 (w ∷ x ∷ y ∷ z ∷ []))) (le_bytes_2 (c ∷ d ∷ []) _ refl (two (are 2) (are 3)) refl)
    ∙ ap (λ (back : List ℕ). k ∷ i ∷ c ∷ d ∷ back) (le_bytes_4 (w ∷ x ∷ y ∷ z ∷ []) _ refl (four (are 4) (are 5) (are 6) (are 7)) refl)
  where
    two : c < 256 → d < 256 → IsBytes (c ∷ d ∷ [])
    two fc fd zero = fc
    two fc fd (suc zero) = fd
    two fc fd (suc (suc j)) = lit< tt

    four : w < 256 → x < 256 → y < 256 → z < 256 → IsBytes (w ∷ x ∷ y ∷ z ∷ [])
    four fw fx fy fz zero = fw
    four fw fx fy fz (suc zero) = fx
    four fw fx fy fz (suc (suc zero)) = fy
    four fw fx fy fz (suc (suc (suc zero))) = fz
    four fw fx fy fz (suc (suc (suc (suc j)))) = lit< tt
eight bytes long are = absurd (omega arith)

detail_below : (bytes : List ℕ) → length bytes ≡ 8 → IsBytes bytes → from_le_bytes w32 (take 4 (drop 4 bytes)) < 2 ^ 32
detail_below (k ∷ i ∷ c ∷ d ∷ w ∷ x ∷ y ∷ z ∷ []) long are =
    let fw : w < 256 = are 4 in
    let fx : x < 256 = are 5 in
    let fy : y < 256 = are 6 in
    let fz : z < 256 = are 7 in
    omega arith
detail_below bytes long are = absurd (omega arith)

-- what is read is spelled so
pub status_bytes_of-status_from : (bytes : List ℕ) (status : Status) → length bytes ≡ 8 → IsBytes bytes → status_from bytes ≡ Some status → IsStatus status × (status_bytes_of status ≡ bytes)
status_bytes_of-status_from bytes status long are h =
    let p = found_parts (slice_index bytes 0) (slice_index bytes 1) (from_le_bytes w16 (take 2 (drop 2 bytes)))
    (from_le_bytes w32 (take 4 (drop 4 bytes))) status h (are 1) (detail_below bytes long are) in
    (p.0, sym p.1 ∙ eight bytes long are)

length-status_bytes_of : (status : Status) → length (status_bytes_of status) ≡ 8
length-status_bytes_of Good = refl
length-status_bytes_of (Failed index cause detail) = refl
length-status_bytes_of (Dropped cause) = refl

named : {X E : Type 0} (o : Option X) (e : E) (x : X) → ok_or o e ≡ Ok x → o ≡ Some x
named (Some y) e x h = cc
named None e x h = absurd (cc)

status_again : {E : Type 0} (truncated refused : ℕ → E) (total : ℕ) (status : Status) (rest : List ℕ)
    → IsStatus status → status_at truncated refused total (status_bytes_of status ++ rest) ≡ Ok (status, rest)
unfolding status_at
status_again truncated refused total status rest fits =
    let field = (field_reads truncated total 8).again (status_bytes_of status) rest (length-status_bytes_of status) in
    rw (field, status_from-status_bytes_of status fits) refl

status_takes : {E : Type 0} (truncated refused : ℕ → E) (total : ℕ) (bytes : List ℕ) (status : Status)
    (rest : List ℕ) → IsBytes bytes → status_at truncated refused total bytes ≡ Ok (status, rest)
    → IsStatus status × (bytes ≡ status_bytes_of status ++ rest)
unfolding status_at
status_takes truncated refused total bytes status rest are h =
    let t = taken (field_reads truncated total 8) _ bytes (status, rest) are h in
    let n = bind_ok (ok_or (status_from t.value) (refused (place total bytes))) _ (status, rest) t.goes_on in
    let p = ok_parts _ _ _ _ n.2 in
    let f = status_bytes_of-status_from t.value n.0 t.fits (before_bytes t.value t.rest (subst IsBytes t.spelled are)) (named _ _ n.0 n.1) in
    (subst IsStatus p.0 f.0, t.spelled ∙ ap (λ (front : List ℕ). front ++ t.rest) (sym f.1 ∙ ap status_bytes_of p.0) ∙ ap (λ (after : List ℕ). status_bytes_of status ++ after) p.1)

-- statuses as a field of a format
pub status_reads : {E : Type 0} (truncated refused : ℕ → E) (total : ℕ) → Reads (status_at truncated refused total) status_bytes_of IsStatus
status_reads truncated refused total = record { again = status_again truncated refused total; takes = status_takes truncated refused total }

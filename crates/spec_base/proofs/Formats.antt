-- A reading function and a spelling belong together: what is spelled is read again, whatever follows,
-- and what is read is spelled so. Each format is put together from these laws.
use Rattle.std.proofs.Common.{◌≡◌, ◌<◌, ◌^◌, ℕ, zero, suc, List, [], ◌∷◌, ◌++◌, length, take, get_or, Result, Ok, Bool, true, false, inl, inr, refl, sym, ap, subst, ◌∙◌, append_assoc, arith}
use Rattle.std.specs.Prelude.{nat_lt, slice_index}
use Rattle.std.specs.Int.{Width, w16, w32, w64, byte_len, from_le_bytes, to_le_bytes}
use Rattle.std.specs.List.{flat_map, AllByRecursion}
use Rattle.std.proofs.lemmas.Bool.Decides.{nat_tests}
use Rattle.std.proofs.lemmas.List.{append-nil, take-append-drop, length-take, length-append, take_at, drop_at}
use Rattle.std.proofs.lemmas.Nat.{from_le_bytes-to_le_bytes_2, from_le_bytes-to_le_bytes_4, from_le_bytes-to_le_bytes_8, le_bytes_2, le_bytes_4, le_bytes_8}
use Rattle.spec_base.specs.Bytes.{IsBytes}
use Rattle.spec_base.specs.Reading.{◌>>=◌, place, field_at, byte_at, number_at, read_if, read_as, many_after, many, AllAfter}
use Rattle.spec_base.proofs.Binding.{bind_ok, chosen, ok_if_true, not_refused, ok_parts, after_bytes, before_bytes}

-- one reads exactly what spell spells of the values that have a spelling
pub record Reads {X E : Type 0} (one : List ℕ → Result (X × List ℕ) E) (spell : X → List ℕ) (Fits : X → Type 0) : Type 0 where
  pub again : (x : X) (rest : List ℕ) → Fits x → one (spell x ++ rest) ≡ Ok (x, rest)
  pub takes : (bytes : List ℕ) (x : X) (rest : List ℕ) → IsBytes bytes → one bytes ≡ Ok (x, rest) → Fits x × (bytes ≡ spell x ++ rest)

-- what the first of several readings took
pub record Taken {X Y E : Type 0} (spell : X → List ℕ) (Fits : X → Type 0) (then : X × List ℕ → Result Y E) (bytes : List ℕ) (y : Y) : Type 0 where
  pub value : X
  pub rest : List ℕ
  pub fits : Fits value
  pub spelled : bytes ≡ spell value ++ rest
  pub are_bytes : IsBytes rest
  pub goes_on : then (value, rest) ≡ Ok y

pub taken : {X Y E : Type 0} {one : List ℕ → Result (X × List ℕ) E} {spell : X → List ℕ} {Fits : X → Type 0} → Reads one spell Fits
    → (then : X × List ℕ → Result Y E) (bytes : List ℕ) (y : Y) → IsBytes bytes → (one bytes >>= then) ≡ Ok y → Taken spell Fits then bytes y
taken {one = one} reads then bytes y are h =
    let a = bind_ok (one bytes) then y h in
    let t = reads.takes bytes a.0.0 a.0.1 are a.1 in
    record { value = a.0.0; rest = a.0.1; fits = t.0; spelled = t.1; are_bytes = after_bytes bytes _ _ are t.1; goes_on = a.2 }

-- a fact that follows from what a reading took and what stands after it
pub by_taking : {X Y E Goal : Type 0} {one : List ℕ → Result (X × List ℕ) E} {spell : X → List ℕ} {Fits : X → Type 0} → Reads one spell Fits
    → (then : X × List ℕ → Result Y E) (bytes : List ℕ) (y : Y) → IsBytes bytes → (one bytes >>= then) ≡ Ok y
    → ((x : X) (rest : List ℕ) → Fits x → bytes ≡ spell x ++ rest → IsBytes rest → then (x, rest) ≡ Ok y → Goal) → Goal
by_taking reads then bytes y are h so =
    let t = taken reads then bytes y are h in
    so t.value t.rest t.fits t.spelled t.are_bytes t.goes_on

-- fields

field_again : {E : Type 0} (truncated : ℕ → E) (total count : ℕ) (field rest : List ℕ) → length field ≡ count → field_at truncated total count (field ++ rest) ≡ Ok (field, rest)
unfolding field_at
field_again truncated total count field rest h = rw (enough, take_at field rest count h, drop_at field rest count h) refl
  where
    enough : nat_lt (length (field ++ rest)) count ≡ false
    enough = grind (arith, nat_tests, length-append field rest)

field_takes : {E : Type 0} (truncated : ℕ → E) (total count : ℕ) (bytes field rest : List ℕ)
    → field_at truncated total count bytes ≡ Ok (field, rest) → (length field ≡ count) × (bytes ≡ field ++ rest)
unfolding field_at
field_takes truncated total count bytes field rest h =
    elim (chosen (nat_lt (length bytes) count) _ _ _ h) [
      | inl p ↦ absurd (not_refused p.1)
      | inr q ↦ let k = ok_parts _ _ _ _ q.1 in
          (rw (← k.0) (long q.0), rw (← k.0, ← k.1) (sym (take-append-drop count bytes)))
    ]
  where
    long : nat_lt (length bytes) count ≡ false → length (take count bytes) ≡ count
    long e = rw length-take (grind (arith, nat_tests))

pub field_reads : {E : Type 0} (truncated : ℕ → E) (total count : ℕ) → Reads (field_at truncated total count) (λ field. field) (λ field. length field ≡ count)
field_reads truncated total count = record {
  again = λ field rest h. field_again truncated total count field rest h;
  takes = λ bytes field rest are h. field_takes truncated total count bytes field rest h;
}

one_byte : (field : List ℕ) → length field ≡ 1 → field ≡ slice_index field 0 ∷ []
one_byte [] h = absurd (omega arith)
one_byte (b ∷ []) h = refl
one_byte (b ∷ c ∷ bs) h = absurd (omega arith)

byte_again : {E : Type 0} (truncated : ℕ → E) (total b : ℕ) (rest : List ℕ) → byte_at truncated total (b ∷ [] ++ rest) ≡ Ok (b, rest)
unfolding byte_at
byte_again truncated total b rest = rw (field_again truncated total 1 (b ∷ []) rest refl) refl

byte_takes : {E : Type 0} (truncated : ℕ → E) (total : ℕ) (bytes : List ℕ) (b : ℕ) (rest : List ℕ) → IsBytes bytes → byte_at truncated total bytes ≡ Ok (b, rest) → (b < 256) × (bytes ≡ b ∷ [] ++ rest)
unfolding byte_at
byte_takes truncated total bytes b rest are h =
    let a = bind_ok (field_at truncated total 1 bytes) _ (b, rest) h in
    let t = field_takes truncated total 1 bytes a.0.0 a.0.1 a.1 in
    let p = ok_parts _ _ _ _ a.2 in
    found a.0.0 a.0.1 t.0 t.1 p.0 p.1
  where
    found : (field after : List ℕ) → length field ≡ 1 → bytes ≡ field ++ after → slice_index field 0 ≡ b → after ≡ rest → (b < 256) × (bytes ≡ b ∷ [] ++ rest)
    found field after len e first same =
        let shape : field ≡ b ∷ [] = one_byte field len ∙ ap (λ (v : ℕ). v ∷ []) first in
        let whole : bytes ≡ b ∷ [] ++ rest = e ∙ ap (λ (l : List ℕ). l ++ after) shape ∙ ap (λ (l : List ℕ). b ∷ [] ++ l) same in
        (subst (λ (l : List ℕ). get_or l 0 0 < 256) whole (are 0), whole)

pub byte_reads : {E : Type 0} (truncated : ℕ → E) (total : ℕ) → Reads (byte_at truncated total) (λ b. b ∷ []) (λ b. b < 256)
byte_reads truncated total = record {
  again = λ b rest h. byte_again truncated total b rest;
  takes = byte_takes truncated total;
}

-- what a width of numbers keeps, as spelled and as read
record IsSpelling (width : Width) (bound : ℕ) : Type 0 where
  len : (n : ℕ) → length (to_le_bytes width n) ≡ byte_len width
  back : (n : ℕ) → n < bound → from_le_bytes width (to_le_bytes width n) ≡ n
  below : (field : List ℕ) → IsBytes field → from_le_bytes width field < bound
  forth : (field : List ℕ) → length field ≡ byte_len width → IsBytes field → to_le_bytes width (from_le_bytes width field) ≡ field

number_again : {E : Type 0} (truncated : ℕ → E) (width : Width) (bound : ℕ) → IsSpelling width bound
    → (total n : ℕ) (rest : List ℕ) → n < bound
    → number_at truncated width total (to_le_bytes width n ++ rest) ≡ Ok (n, rest)
unfolding number_at
number_again truncated width bound is total n rest h = rw (field_again truncated total (byte_len width) (to_le_bytes width n) rest (is.len n), is.back n h) refl

number_takes : {E : Type 0} (truncated : ℕ → E) (width : Width) (bound : ℕ) → IsSpelling width bound
    → (total : ℕ) (bytes : List ℕ) (n : ℕ) (rest : List ℕ) → IsBytes bytes
    → number_at truncated width total bytes ≡ Ok (n, rest) → (n < bound) × (bytes ≡ to_le_bytes width n ++ rest)
unfolding number_at
number_takes truncated width bound is total bytes n rest are h =
    let a = bind_ok (field_at truncated total (byte_len width) bytes) _ (n, rest) h in
    let t = field_takes truncated total (byte_len width) bytes a.0.0 a.0.1 a.1 in
    let p = ok_parts _ _ _ _ a.2 in
    found a.0.0 a.0.1 t.0 t.1 p.0 p.1
  where
    found : (field after : List ℕ) → length field ≡ byte_len width → bytes ≡ field ++ after → from_le_bytes width field ≡ n → after ≡ rest → (n < bound) × (bytes ≡ to_le_bytes width n ++ rest)
    found field after long e number same =
        let fits : IsBytes field = before_bytes field after (subst IsBytes e are) in
        let spelled : to_le_bytes width n ≡ field = ap (to_le_bytes width) (sym number) ∙ is.forth field long fits in
        (subst (λ m. m < bound) number (is.below field fits), e ∙ ap (λ (l : List ℕ). l ++ after) (sym spelled) ∙ ap (λ (l : List ℕ). to_le_bytes width n ++ l) same)

number_reads : {E : Type 0} (truncated : ℕ → E) (width : Width) (bound : ℕ) → IsSpelling width bound → (total : ℕ) → Reads (number_at truncated width total) (to_le_bytes width) (λ n. n < bound)
number_reads truncated width bound is total = record {
  again = number_again truncated width bound is total;
  takes = number_takes truncated width bound is total;
}

u16_below : (field : List ℕ) → IsBytes field → from_le_bytes w16 field < 2 ^ 16
u16_below field are = omega (arith, are 0, are 1)

pub u32_below : (field : List ℕ) → IsBytes field → from_le_bytes w32 field < 2 ^ 32
u32_below field are = omega (arith, are 0, are 1, are 2, are 3)

u64_below : (field : List ℕ) → IsBytes field → from_le_bytes w64 field < 2 ^ 64
u64_below field are = omega (arith, are 0, are 1, are 2, are 3, are 4, are 5, are 6, are 7)

pub u16_reads : {E : Type 0} (truncated : ℕ → E) (total : ℕ) → Reads (number_at truncated w16 total) (to_le_bytes w16) (λ n. n < 2 ^ 16)
u16_reads truncated total = number_reads truncated w16 (2 ^ 16) (record {
  len = λ n. refl;
  back = from_le_bytes-to_le_bytes_2;
  below = u16_below;
  forth = λ field long are. le_bytes_2 field _ long are refl;
}) total

pub u32_reads : {E : Type 0} (truncated : ℕ → E) (total : ℕ) → Reads (number_at truncated w32 total) (to_le_bytes w32) (λ n. n < 2 ^ 32)
u32_reads truncated total = number_reads truncated w32 (2 ^ 32) (record {
  len = λ n. refl;
  back = from_le_bytes-to_le_bytes_4;
  below = u32_below;
  forth = λ field long are. le_bytes_4 field _ long are refl;
}) total

pub u64_reads : {E : Type 0} (truncated : ℕ → E) (total : ℕ) → Reads (number_at truncated w64 total) (to_le_bytes w64) (λ n. n < 2 ^ 64)
u64_reads truncated total = number_reads truncated w64 (2 ^ 64) (record {
  len = λ n. refl;
  back = from_le_bytes-to_le_bytes_8;
  below = u64_below;
  forth = λ field long are. le_bytes_8 field _ long are refl;
}) total

-- values that pass a test

read_if_again : {X E : Type 0} (refusal : ℕ → E) (test : X → Bool) (one : List ℕ → Result (X × List ℕ) E)
    (total : ℕ) (bytes : List ℕ) (x : X) (rest : List ℕ) → one bytes ≡ Ok (x, rest) → test x ≡ true
    → read_if refusal test one total bytes ≡ Ok (x, rest)
unfolding read_if
read_if_again refusal test one total bytes x rest read passed = rw (read, passed) refl

read_if_takes : {X E : Type 0} (refusal : ℕ → E) (test : X → Bool) (one : List ℕ → Result (X × List ℕ) E)
    (total : ℕ) (bytes : List ℕ) (x : X) (rest : List ℕ) → read_if refusal test one total bytes ≡ Ok (x, rest)
    → (one bytes ≡ Ok (x, rest)) × (test x ≡ true)
unfolding read_if
read_if_takes {X = X} refusal test one total bytes x rest h =
    let a = bind_ok (one bytes) _ (x, rest) h in
    let c = ok_if_true (test a.0.0) (refusal (place total bytes)) a.0 (x, rest) a.2 in
    (a.1 ∙ ap (λ (p : X × List ℕ). Ok p) c.1, subst (λ (p : X × List ℕ). test p.0 ≡ true) c.1 c.0)

pub read_if_reads : {X E : Type 0} {one : List ℕ → Result (X × List ℕ) E} {spell : X → List ℕ}
    {Fits : X → Type 0} (refusal : ℕ → E) (test : X → Bool) (total : ℕ) → Reads one spell Fits
    → Reads (read_if refusal test one total) spell (λ x. Fits x × (test x ≡ true))
read_if_reads {X = X} {one = one} {spell = spell} {Fits = Fits} refusal test total reads = record { again = again; takes = takes }
  where
    again : (x : X) (rest : List ℕ) → Fits x × (test x ≡ true) → read_if refusal test one total (spell x ++ rest) ≡ Ok (x, rest)
    again x rest h = read_if_again refusal test one total (spell x ++ rest) x rest (reads.again x rest h.0) h.1

    takes : (bytes : List ℕ) (x : X) (rest : List ℕ) → IsBytes bytes → read_if refusal test one total bytes ≡ Ok (x, rest) → (Fits x × (test x ≡ true)) × (bytes ≡ spell x ++ rest)
    takes bytes x rest are h =
        let t = read_if_takes refusal test one total bytes x rest h in
        let r = reads.takes bytes x rest are t.0 in
        ((r.0, t.1), r.1)

-- values of another shape

read_as_again : {X Y E : Type 0} (shape : X → Y) (one : List ℕ → Result (X × List ℕ) E) (bytes : List ℕ) (x : X)
    (rest : List ℕ) → one bytes ≡ Ok (x, rest) → read_as shape one bytes ≡ Ok (shape x, rest)
unfolding read_as
read_as_again shape one bytes x rest read = rw read refl

read_as_takes : {X Y E : Type 0} (shape : X → Y) (one : List ℕ → Result (X × List ℕ) E) (bytes : List ℕ) (y : Y)
    (rest : List ℕ) → read_as shape one bytes ≡ Ok (y, rest)
    → (x : X) × (one bytes ≡ Ok (x, rest)) × (shape x ≡ y)
unfolding read_as
read_as_takes {X = X} shape one bytes y rest h =
    let a = bind_ok (one bytes) _ (y, rest) h in
    let p = ok_parts _ _ _ _ a.2 in
    (a.0.0, a.1 ∙ ap (λ (after : List ℕ). Ok (a.0.0, after)) p.1, p.0)

pub read_as_reads : {X Y E : Type 0} {one : List ℕ → Result (X × List ℕ) E} {spell : X → List ℕ}
    {Fits : X → Type 0} (shape : X → Y) (back : Y → X) → ((x : X) → back (shape x) ≡ x)
    → ((y : Y) → shape (back y) ≡ y)
    → Reads one spell Fits → Reads (read_as shape one) (λ y. spell (back y)) (λ y. Fits (back y))
read_as_reads {X = X} {Y = Y} {one = one} {spell = spell} {Fits = Fits} shape back there here reads = record { again = again; takes = takes }
  where
    again : (y : Y) (rest : List ℕ) → Fits (back y) → read_as shape one (spell (back y) ++ rest) ≡ Ok (y, rest)
    again y rest h = read_as_again shape one (spell (back y) ++ rest) (back y) rest (reads.again (back y) rest h) ∙ ap (λ (v : Y). Ok (v, rest)) (here y)

    takes : (bytes : List ℕ) (y : Y) (rest : List ℕ) → IsBytes bytes → read_as shape one bytes ≡ Ok (y, rest) → Fits (back y) × (bytes ≡ spell (back y) ++ rest)
    takes bytes y rest are h =
        let t = read_as_takes shape one bytes y rest h in
        subst (λ (x : X). Fits x × (bytes ≡ spell x ++ rest)) (sym (there t.0) ∙ ap back t.2) (reads.takes bytes t.0 rest are t.1)

-- lists

many_after_again : {X E : Type 0} (one : List X → List ℕ → Result (X × List ℕ) E) (spell : X → List ℕ) (Fits : List X → X → Type 0) → ((before : List X) → Reads (one before) spell (Fits before))
    → (before xs : List X) (rest : List ℕ) → AllAfter Fits before xs → many_after one before (length xs) (flat_map spell xs ++ rest) ≡ Ok (before ++ xs, rest)
unfolding many_after
many_after_again {X = X} one spell Fits reads before [] rest h = ap (λ (l : List X). Ok (l, rest)) (sym (append-nil before))
many_after_again {X = X} {E = E} one spell Fits reads before (x ∷ xs) rest h =
    let Claim : List ℕ → Type 0 = λ bytes. many_after one before (suc (length xs)) bytes ≡ Ok (before ++ x ∷ xs, rest) in
    let there : many_after one (before ++ x ∷ []) (length xs) (flat_map spell xs ++ rest) ≡ Ok (before ++ x ∷ xs, rest) =
    many_after_again one spell Fits reads (before ++ x ∷ []) xs rest h.1 ∙ ap (λ (l : List X). let r : Result (List X × List ℕ) E = Ok (l, rest) in r) (append_assoc before (x ∷ []) xs) in
    subst Claim (sym (append_assoc (spell x) (flat_map spell xs) rest)) (rw ((reads before).again x (flat_map spell xs ++ rest) h.0) there)

-- what was read after those before
record Listed {X : Type 0} (spell : X → List ℕ) (Fits : List X → X → Type 0) (before all : List X) (count : ℕ) (bytes rest : List ℕ) : Type 0 where
  items : List X
  appended : all ≡ before ++ items
  counted : length items ≡ count
  fits : AllAfter Fits before items
  spelled : bytes ≡ flat_map spell items ++ rest

many_after_takes : {X E : Type 0} (one : List X → List ℕ → Result (X × List ℕ) E) (spell : X → List ℕ) (Fits : List X → X → Type 0) → ((before : List X) → Reads (one before) spell (Fits before))
    → (count : ℕ) (before : List X) (bytes : List ℕ) (all : List X) (rest : List ℕ) → IsBytes bytes → many_after one before count bytes ≡ Ok (all, rest) → Listed spell Fits before all count bytes rest
unfolding many_after
many_after_takes one spell Fits reads zero before bytes all rest are h =
    let p = ok_parts _ _ _ _ h in
    record { items = []; appended = sym p.0 ∙ sym (append-nil before); counted = refl; fits = tt; spelled = p.1 }
many_after_takes one spell Fits reads (suc count) before bytes all rest are h =
    let t = taken (reads before) _ bytes (all, rest) are h in
    let l = many_after_takes one spell Fits reads count (before ++ t.value ∷ []) t.rest all rest t.are_bytes t.goes_on in
    record {
      items = t.value ∷ l.items;
      appended = l.appended ∙ append_assoc before (t.value ∷ []) l.items;
      counted = ap suc l.counted;
      fits = (t.fits, l.fits);
      spelled = t.spelled ∙ ap (λ (bs : List ℕ). spell t.value ++ bs) l.spelled ∙ sym (append_assoc (spell t.value) (flat_map spell l.items) rest);
    }

pub many_after_reads : {X E : Type 0} {one : List X → List ℕ → Result (X × List ℕ) E} {spell : X → List ℕ} {Fits : List X → X → Type 0} → ((before : List X) → Reads (one before) spell (Fits before))
    → (count : ℕ) → Reads (many_after one [] count) (flat_map spell) (λ xs. (length xs ≡ count) × AllAfter Fits [] xs)
many_after_reads {X = X} {one = one} {spell = spell} {Fits = Fits} reads count = record { again = again; takes = takes }
  where
    again : (xs : List X) (rest : List ℕ) → (length xs ≡ count) × AllAfter Fits [] xs → many_after one [] count (flat_map spell xs ++ rest) ≡ Ok (xs, rest)
    again xs rest h = subst (λ n. many_after one [] n (flat_map spell xs ++ rest) ≡ Ok (xs, rest)) h.0 (many_after_again one spell Fits reads [] xs rest h.1)

    takes : (bytes : List ℕ) (xs : List X) (rest : List ℕ) → IsBytes bytes
        → many_after one [] count bytes ≡ Ok (xs, rest)
        → ((length xs ≡ count) × AllAfter Fits [] xs) × (bytes ≡ flat_map spell xs ++ rest)
    takes bytes xs rest are h =
        let l = many_after_takes one spell Fits reads count [] bytes xs rest are h in
        let Claim : List X → Type 0 = λ v. ((length v ≡ count) × AllAfter Fits [] v) × (bytes ≡ flat_map spell v ++ rest) in
        subst Claim (sym l.appended) ((l.counted, l.fits), l.spelled)

-- what is asked of each item by itself
pub AllAfter-all : {X : Type 0} (Fits : X → Type 0) (before xs : List X) → AllAfter (λ _ x. Fits x) before xs → AllByRecursion Fits xs
AllAfter-all Fits before [] h = tt
AllAfter-all Fits before (x ∷ xs) h = (h.0, AllAfter-all Fits (before ++ x ∷ []) xs h.1)

pub all-AllAfter : {X : Type 0} (Fits : X → Type 0) (before xs : List X) → AllByRecursion Fits xs → AllAfter (λ _ x. Fits x) before xs
all-AllAfter Fits before [] h = tt
all-AllAfter Fits before (x ∷ xs) h = (h.0, all-AllAfter Fits (before ++ x ∷ []) xs h.1)

pub many_reads : {X E : Type 0} {one : List ℕ → Result (X × List ℕ) E} {spell : X → List ℕ} {Fits : X → Type 0} → Reads one spell Fits
    → (count : ℕ) → Reads (many one count) (flat_map spell) (λ xs. (length xs ≡ count) × AllByRecursion Fits xs)
many_reads {X = X} {one = one} {spell = spell} {Fits = Fits} reads count = record {
  again = λ xs rest h. all.again xs rest (h.0, all-AllAfter Fits [] xs h.1);
  takes = λ bytes xs rest are h. let t = all.takes bytes xs rest are h in ((t.0.0, AllAfter-all Fits [] xs t.0.1), t.1);
}
  where
    all : Reads (many_after (λ _. one) [] count) (flat_map spell) (λ xs. (length xs ≡ count) × AllAfter (λ _. Fits) [] xs)
    all = many_after_reads (λ _. reads) count

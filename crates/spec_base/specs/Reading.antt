-- Reading a format from left to right: a value and the bytes after it, or the first refusal.
-- A place counts from the first byte of the whole text, whose length is total.
use Rattle.std.specs.Prelude.{◌≡◌, ℕ, zero, suc, ◌-◌, List, [], ◌∷◌, ◌++◌, length, take, drop, Result, Ok, Err, Bool, nat_lt, if◌then◌else◌, MatchBool, slice_index, ◌==◌}
use Rattle.std.specs.Int.{Width, byte_len, from_le_bytes}

-- what was read, and then what is read after it
infixl 10 ◌>>=◌
abbrev pub ◌>>=◌ : {A B E : Type 0} → Result A E → (A → Result B E) → Result B E
(Ok x) >>= f = f x
(Err e) >>= f = Err e

-- the first of many refusals, and the answer where there is none
abbrev pub first_or : {X E : Type 0} → List E → Result X E → Result X E
first_or [] answer = answer
first_or (refusal ∷ _) answer = Err refusal

-- what is done with each item in order, or the first refusal
unfoldable pub each : {X Y E : Type 0} → (X → Result Y E) → List X → Result (List Y) E
each one [] = Ok []
each one (x ∷ xs) = do
  y ← one x
  ys ← each one xs
  Ok (y ∷ ys)

-- What a call answered, seen by view, is what reading gives, or memory ran out.
abbrev pub Gives : {X Y E : Type 0} → (E → Bool) → (X → Y) → Result X E → Result Y E → Type 0
Gives is_memory view (Ok x) read = read ≡ Ok (view x)
Gives is_memory view (Err e) read = MatchBool (is_memory e) (Unit {0}) (read ≡ Err e)

-- the place of the first byte that is left
abbrev pub place : ℕ → List ℕ → ℕ
place total bytes = total - length bytes

-- the value where the test passes, else the refusal
abbrev pub ok_if : {X E : Type 0} → Bool → E → X → Result X E
ok_if test refusal x = if test then Ok x else Err refusal

-- a field of so many bytes, refused at its own place where it does not fit in the bytes left
unfoldable pub field_at : {E : Type 0} → (ℕ → E) → ℕ → ℕ → List ℕ → Result (List ℕ × List ℕ) E
field_at truncated total count bytes =
    if nat_lt (length bytes) count then Err (truncated (place total bytes))
    else Ok (take count bytes, drop count bytes)

-- a field of one byte
unfoldable pub byte_at : {E : Type 0} → (ℕ → E) → ℕ → List ℕ → Result (ℕ × List ℕ) E
byte_at truncated total bytes = do
  field ← field_at truncated total 1 bytes
  Ok (slice_index field.0 0, field.1)

-- a field that is a little-endian number
unfoldable pub number_at : {E : Type 0} → (ℕ → E) → Width → ℕ → List ℕ → Result (ℕ × List ℕ) E
number_at truncated width total bytes = do
  field ← field_at truncated total (byte_len width) bytes
  Ok (from_le_bytes width field.0, field.1)

-- what one reads, refused at its own place where its value fails the test
unfoldable pub read_if : {X E : Type 0} → (ℕ → E) → (X → Bool) → (List ℕ → Result (X × List ℕ) E)
    → ℕ → List ℕ → Result (X × List ℕ) E
read_if refusal test one total bytes = do
  read ← one bytes
  ok_if (test read.0) (refusal (place total bytes)) read

-- what one reads, as a value of another shape
unfoldable pub read_as : {X Y E : Type 0} → (X → Y) → (List ℕ → Result (X × List ℕ) E) → List ℕ
    → Result (Y × List ℕ) E
read_as shape one bytes = do
  read ← one bytes
  Ok (shape read.0, read.1)

-- so many items, one after the other, each read with those before it known
unfoldable pub many_after : {X E : Type 0} → (List X → List ℕ → Result (X × List ℕ) E) → List X → ℕ
    → List ℕ → Result (List X × List ℕ) E
many_after one before zero bytes = Ok (before, bytes)
many_after one before (suc count) bytes = do
  item ← one before bytes
  many_after one (before ++ item.0 ∷ []) count item.1

-- so many items, each read by itself
abbrev pub many : {X E : Type 0} → (List ℕ → Result (X × List ℕ) E) → ℕ → List ℕ
    → Result (List X × List ℕ) E
many one count bytes = many_after (λ _ rest. one rest) [] count bytes

-- each item is as asked of it and of the items before it
abbrev pub AllAfter : {X : Type 0} → (List X → X → Type 0) → List X → List X → Type 0
AllAfter P before [] = Unit {0}
AllAfter P before (x ∷ xs) = P before x × AllAfter P (before ++ x ∷ []) xs

-- the value, where no byte is left after it
abbrev pub whole : {X E : Type 0} → (ℕ → E) → ℕ → X × List ℕ → Result X E
whole trailing total read = ok_if (length read.1 == 0) (trailing (place total read.1)) read.0

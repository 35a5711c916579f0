-- Compact lengths (Solana), read from left to right: digits of 7 bits, the low ones first.
use Rattle.std.specs.Prelude.{ℕ, ◌+◌, ◌-◌, ◌*◌, ◌==◌, ◌||◌, List, [], ◌∷◌, Result, Ok, Err, nat_lt, if◌then◌else◌}
use Rattle.spec_base.specs.Reading.{place}

-- the third digit of a length that begins at a place, after what the others come to
abbrev pub third_at : {E : Type 0} → (ℕ → E) → (ℕ → E) → ℕ → ℕ → List ℕ → Result (ℕ × List ℕ) E
third_at truncated bad at low [] = Err (truncated at)
third_at truncated bad at low (c ∷ rest) =
    if c == 0 || nat_lt 3 c then Err (bad at) else Ok (low + 16384 * c, rest)

-- the second, which is not 0 where it is the last
abbrev pub second_at : {E : Type 0} → (ℕ → E) → (ℕ → E) → ℕ → ℕ → List ℕ → Result (ℕ × List ℕ) E
second_at truncated bad at low [] = Err (truncated at)
second_at truncated bad at low (b ∷ rest) =
    if nat_lt b 128 then (if b == 0 then Err (bad at) else Ok (low + 128 * b, rest)) else
    third_at truncated bad at (low + 128 * (b - 128)) rest

abbrev pub first_at : {E : Type 0} → (ℕ → E) → (ℕ → E) → ℕ → List ℕ → Result (ℕ × List ℕ) E
first_at truncated bad at [] = Err (truncated at)
first_at truncated bad at (a ∷ rest) =
    if nat_lt a 128 then Ok (a, rest) else second_at truncated bad at (a - 128) rest

-- a compact length, refused at its first byte
unfoldable pub length_at : {E : Type 0} → (ℕ → E) → (ℕ → E) → ℕ → List ℕ → Result (ℕ × List ℕ) E
length_at truncated bad total bytes = first_at truncated bad (place total bytes) bytes

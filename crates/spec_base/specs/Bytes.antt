-- Lists of numbers that are bytes, and little-endian numbers in them.
use Rattle.std.specs.Prelude.{ℕ, ◌+◌, ◌<◌, List, ◌++◌, drop, length, slice_index, take}
use Rattle.std.specs.Int.{w16, w64, from_le_bytes, to_le_bytes}

-- each item is a byte
abbrev pub IsBytes : List ℕ → Type 0
IsBytes bytes = (i : ℕ) → slice_index bytes i < 256

-- a list with other bytes from a place on
abbrev pub with_bytes : List ℕ → ℕ → List ℕ → List ℕ
with_bytes list at bytes = take at list ++ bytes ++ drop (at + length bytes) list

-- the number of 8 bytes from a place on
abbrev pub number_from : List ℕ → ℕ → ℕ
number_from bytes at = from_le_bytes w64 (take 8 (drop at bytes))

-- the greatest number of 2 bytes, which is also the greatest with a compact length (Solana)
abbrev pub max_count : ℕ
max_count = 65535

-- a length of 2 bytes, and the bytes
abbrev pub sized_bytes : List ℕ → List ℕ
sized_bytes bytes = to_le_bytes w16 (length bytes) ++ bytes

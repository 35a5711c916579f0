-- How many bytes a snapshot takes, by its lengths alone.
use Rattle.std.specs.Prelude.{ℕ, zero, suc, ◌*◌, List, length, take, drop, nat_lt, Option, Some, None, option_map, option_and_then, if◌then◌else◌}
use Rattle.std.specs.Int.{w32, from_le_bytes}
use Rattle.spec_base.specs.Reading.{place}
use Rattle.snapshot_codec.specs.SnapshotReading.{names_one, names_two}

-- what stands behind so many bytes
unfoldable pub behind : ℕ → List ℕ → Option (List ℕ)
behind count bytes = if nat_lt (length bytes) count then None else Some (drop count bytes)

-- a number of four bytes, and what stands behind it
unfoldable pub count_in_front : List ℕ → Option (ℕ × List ℕ)
count_in_front bytes =
    if nat_lt (length bytes) 4 then None
    else Some (from_le_bytes w32 (take 4 bytes), drop 4 bytes)

-- what stands behind a head, a number, and as many bytes as it tells
abbrev pub behind_sized : ℕ → (ℕ → ℕ) → List ℕ → Option (List ℕ)
behind_sized head size bytes =
    option_and_then (λ sized. behind (size sized.0) sized.1)
    (option_and_then count_in_front (behind head bytes))

-- what stands behind a mark: its hash, and so many names of 32 bytes
unfoldable pub behind_mark : List ℕ → Option (List ℕ)
behind_mark bytes = behind_sized 32 (λ names. names * 32) bytes

-- what stands behind an account: its 73 bytes before its data, and so many bytes of data
unfoldable pub behind_account : List ℕ → Option (List ℕ)
behind_account bytes = behind_sized 73 (λ len. len) bytes

-- what stands behind so many items
unfoldable pub behind_many : (List ℕ → Option (List ℕ)) → ℕ → List ℕ → Option (List ℕ)
behind_many one zero bytes = Some bytes
behind_many one (suc count) bytes = option_and_then (behind_many one count) (one bytes)

-- what stands behind items, whose number stands before them
unfoldable pub behind_items : (List ℕ → Option (List ℕ)) → List ℕ → Option (List ℕ)
behind_items one bytes =
    option_and_then (λ items. behind_many one items.0 items.1) (count_in_front bytes)

-- the bytes before the marks, as the version has them
unfoldable pub head_len : List ℕ → Option ℕ
head_len bytes =
    if nat_lt (length bytes) 8 then None else
    if names_one (take 8 bytes) then Some 16 else
    if names_two (take 8 bytes) then Some 35 else
    None

-- what stands behind the head, the marks and the accounts
unfoldable pub behind_snapshot : List ℕ → Option (List ℕ)
behind_snapshot bytes =
    option_and_then (behind_items behind_account)
    (option_and_then (behind_items behind_mark)
    (option_and_then (λ head. behind head bytes) (head_len bytes)))

-- the bytes up to there
unfoldable pub told_length : List ℕ → Option ℕ
told_length bytes = option_map (place (length bytes)) (behind_snapshot bytes)

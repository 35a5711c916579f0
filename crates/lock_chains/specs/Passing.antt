-- The chains of each number as positions pass them, one after the other.
use Rattle.std.specs.Prelude.{◌≡◌, ℕ, ◌<◌, ◌==◌, Bool, not, ◌&&◌, if◌then◌else◌, List, [], ◌∷◌, ◌++◌, length, slice_set, slice_index_or, Option, Some, None, option_to_list}
use Rattle.std.specs.List.{list_any}
use Rattle.lock_table.specs.declared.locks.NumberedLock.{NumberedLock}

-- the number is written, or read, by these locks
abbrev pub writes_number : List NumberedLock → ℕ → Bool
writes_number set n = list_any (λ lock. (lock.number == n) && lock.write) set

abbrev pub reads_number : List NumberedLock → ℕ → Bool
reads_number set n = list_any (λ lock. (lock.number == n) && not lock.write) set

-- whom a lock waits for, where these are the last writers and the readers since
abbrev pub awaited_by : List (Option ℕ) → List (List ℕ) → NumberedLock → List ℕ
awaited_by last readers lock =
    option_to_list (slice_index_or last lock.number None)
    ++ (if lock.write then slice_index_or readers lock.number [] else [])

-- the last writer of a number once a position with these locks has passed, and the readers since
abbrev pub writer_after : List NumberedLock → ℕ → ℕ → Option ℕ → Option ℕ
writer_after locks position n before = if writes_number locks n then Some position else before

abbrev pub readers_after : List NumberedLock → ℕ → ℕ → List ℕ → List ℕ
readers_after locks position n before =
    if writes_number locks n then [] else
    if reads_number locks n then before ++ position ∷ [] else before

-- once a position has passed, it is the last writer of what it writes
abbrev pub PassesWriters : List NumberedLock → ℕ → List (Option ℕ) → List (Option ℕ) → Type 0
PassesWriters locks position last next =
    (n : ℕ) → n < length last →
    slice_index_or next n None ≡ writer_after locks position n (slice_index_or last n None)

-- and one more reader of what it reads
abbrev pub PassesReaders : List NumberedLock → ℕ → List (List ℕ) → List (List ℕ) → Type 0
PassesReaders locks position readers next =
    (n : ℕ) → n < length readers →
    slice_index_or next n [] ≡ readers_after locks position n (slice_index_or readers n [])

-- one row has one item more
abbrev pub pushed_at : List (List ℕ) → ℕ → ℕ → List (List ℕ)
pushed_at rows at item = slice_set rows at (slice_index_or rows at [] ++ item ∷ [])

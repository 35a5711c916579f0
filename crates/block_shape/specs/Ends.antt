-- What is kept while the positions of a block pass: for each key the greatest end of those that
-- write it, and of those that only read it.
use Rattle.std.specs.Prelude.{◌≡◌, ℕ, ◌<◌, ◌≤◌, ◌↔◌, Bool, true, not, ◌&&◌, if◌then◌else◌, max, List, unwrap_or}
use Rattle.std.specs.List.{list_any}
use Rattle.std.specs.BTreeMap.{BTreeMap, get}
use Rattle.sol_base.specs.declared.key.Key.{Key}
use Rattle.sol_base.specs.declared.lock.Lock.{Lock}
use Rattle.sol_base.specs.Keys.{key_cmp, same_key}

-- the greatest end of a key, and 0 where it has none
abbrev pub end_of : BTreeMap Key ℕ → Key → ℕ
end_of ends key = unwrap_or (get key_cmp ends key) 0

-- a reader is held up by the writers of its key, a writer by its readers too
abbrev pub held_until : BTreeMap Key ℕ → BTreeMap Key ℕ → Lock → ℕ
held_until written read lock =
    if lock.write then max (end_of written lock.key) (end_of read lock.key)
    else end_of written lock.key

-- a lock is to write, or only to read
abbrev pub is_locked_as : Bool → Lock → Bool
is_locked_as write lock = if write then lock.write else not lock.write

-- one of the locks on the key is so
abbrev pub locks_as : Bool → List Lock → Key → Bool
locks_as write locks key =
    list_any (λ lock. is_locked_as write lock && same_key lock.key key) locks

-- an end where one more may be noted
abbrev pub raised : Bool → ℕ → ℕ → ℕ
raised notes end before = if notes then max before end else before

-- the ends are those of the positions before i that lock a key so
abbrev pub Ends : Bool → (ℕ → List Lock) → (ℕ → ℕ) → ℕ → BTreeMap Key ℕ → Type 0
Ends write locks end i ends =
    (key : Key) (time : ℕ) →
    (end_of ends key ≤ time)
    ↔ ((j : ℕ) → j < i → locks_as write (locks j) key ≡ true → end j ≤ time)

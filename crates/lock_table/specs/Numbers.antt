-- Keys by their numbers, and locks on them.
use Rattle.std.specs.Prelude.{◌≡◌, ◌≢◌, ℕ, ◌<◌, ◌==◌, Bool, ◌&&◌, ◌||◌, if◌then◌else◌, List, [], ◌∷◌, ◌++◌, map, length, fold, position, Option, All, slice_index_or}
use Rattle.std.specs.List.{list_any, AllPairs}
use Rattle.sol_base.specs.declared.key.Key.{Key}
use Rattle.sol_base.specs.declared.lock.Lock.{Lock}
use Rattle.bank_law.specs.Job.{same_key, has_key}
use Rattle.lock_table.specs.declared.locks.NumberedLock.{NumberedLock}

-- the number of a key is its first place among the keys
abbrev pub number_of : List Key → Key → Option ℕ
number_of keys key = position (λ k. same_key key k) keys

-- the keys once this one has a number, and once each of these has one, in their order
abbrev pub with_key : List Key → Key → List Key
with_key keys key = if has_key key keys then keys else keys ++ key ∷ []

abbrev pub with_keys : List Key → List Key → List Key
with_keys keys more = fold with_key keys more

-- the key of a number
abbrev pub numbered_key : List Key → ℕ → Key
numbered_key keys n = slice_index_or keys n (record { 0 = [] })

-- the lock on a key that a numbered one stands for
abbrev pub keyed_lock : List Key → NumberedLock → Lock
keyed_lock keys lock = record { key = numbered_key keys lock.number; write = lock.write }

-- numbered locks stand for these locks, one by one
pub record Numbers (keys : List Key) (locks : List Lock) (set : List NumberedLock) : Type 0 where
  pub within : All (λ lock. lock.number < length keys) set
  pub stands_for : map (keyed_lock keys) set ≡ locks

-- two numbered locks have one number, and one of the two writes
abbrev pub meets : NumberedLock → NumberedLock → Bool
meets a b = (a.number == b.number) && (a.write || b.write)

-- a number is in both, and at least one of the two writes it
abbrev pub conflicts : List NumberedLock → List NumberedLock → Bool
conflicts one other = list_any (λ a. list_any (λ b. meets a b) other) one

-- no number stands twice
abbrev pub EachOnce : List NumberedLock → Type 0
EachOnce set = AllPairs (λ a b. a.number ≢ b.number) set

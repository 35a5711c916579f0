-- How many transactions wait at a key (the project's own).
use Rattle.std.specs.Prelude.{ℕ, zero, suc, ◌+◌, ◌-◌, ◌^◌, Bool, false, ◌&&◌, ◌||◌, nat_lt, if◌then◌else◌, List, length, min, unwrap_or}
use Rattle.std.specs.List.{list_any}
use Rattle.std.specs.BTreeMap.{BTreeMap, get}
use Rattle.sol_base.specs.declared.key.Key.{Key}
use Rattle.sol_base.specs.declared.lock.Lock.{Lock}
use Rattle.sol_base.specs.Keys.{key_cmp, same_key}
use Rattle.admission.specs.declared.chosen.Chosen.{Chosen}
use Rattle.block_shape.specs.declared.waits.Wait.{Wait}
use Rattle.block_shape.specs.Starts.{locks_at}
use Rattle.block_shape.specs.Meets.{is_met}
use Rattle.block_shape.specs.Ends.{held_until}

-- a lock of a position before i meets the lock
abbrev pub meets_earlier : List Chosen → Lock → ℕ → Bool
meets_earlier order lock zero = false
meets_earlier order lock (suc i) = meets_earlier order lock i || is_met (locks_at order i) lock

-- position i waits at the key: its lock on it meets one of an earlier position
abbrev pub waits : List Chosen → Key → ℕ → Bool
waits order key i =
    list_any (λ lock. meets_earlier order lock i && same_key lock.key key) (locks_at order i)

-- how many of the positions before i wait at the key
abbrev pub waits_before : List Chosen → Key → ℕ → ℕ
waits_before order key zero = 0
waits_before order key (suc i) = waits_before order key i + (if waits order key i then 1 else 0)

abbrev pub waits_at : List Chosen → Key → ℕ
waits_at order key = waits_before order key (length order)

-- ---- what is kept for each key

abbrev pub wait_of : BTreeMap Key Wait → Key → Wait
wait_of waits key = unwrap_or (get key_cmp waits key) (record { count = 0; place = 0 })

-- one more, where the place is not counted yet
abbrev pub counted : Wait → ℕ → Wait
counted before place =
    if nat_lt before.place place
    then record { count = min (before.count + 1) (2 ^ 32 - 1); place = place }
    else before

abbrev pub counted_if : Bool → ℕ → Wait → Wait
counted_if waits place before = if waits then counted before place else before

-- one of the locks on the key is held up
abbrev pub is_held_at : BTreeMap Key ℕ → BTreeMap Key ℕ → List Lock → Key → Bool
is_held_at written read locks key =
    list_any (λ lock. nat_lt 0 (held_until written read lock) && same_key lock.key key) locks

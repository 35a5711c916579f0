-- Laws of numbered keys.
use Rattle.std.specs.Prelude.{◌≡◌, ℕ, ◌+◌, ◌<◌, ◌≤◌, ◌==◌, List, length, Some}
use Rattle.std.specs.List.{IsDistinct}
use Rattle.sol_base.specs.declared.key.Key.{Key}
use Rattle.sol_base.specs.declared.lock.Lock.{Lock}
use Rattle.bank_law.specs.Job.{same_key}
use Rattle.bank_law.specs.Machine.{clash}
use Rattle.lock_table.specs.declared.locks.NumberedLock.{NumberedLock}
use Rattle.lock_table.specs.Numbers.{number_of, numbered_key, with_keys, Numbers, conflicts}

-- numbered locks over distinct keys conflict exactly where the locks that they stand for do
abbrev pub ConflictIsClash : Type 0
ConflictIsClash =
    (keys : List Key) → IsDistinct same_key keys →
    (one other : List Lock) (first second : List NumberedLock) →
    Numbers keys one first → Numbers keys other second →
    conflicts first second ≡ clash one other

-- two numbers of distinct keys are equal exactly where their keys are
abbrev pub EqualKeysEqualNumbers : Type 0
EqualKeysEqualNumbers =
    (keys : List Key) → IsDistinct same_key keys →
    (m n : ℕ) → m < length keys → n < length keys →
    same_key (numbered_key keys m) (numbered_key keys n) ≡ (m == n)

-- a key that has a number keeps it
abbrev pub KeysStay : Type 0
KeysStay =
    (keys more : List Key) (key : Key) (n : ℕ) →
    number_of keys key ≡ Some n → number_of (with_keys keys more) key ≡ Some n

abbrev pub KeysStayDistinct : Type 0
KeysStayDistinct =
    (keys more : List Key) → IsDistinct same_key keys → IsDistinct same_key (with_keys keys more)

-- there are at most as many keys more as were put in
abbrev pub TablesGrowLittle : Type 0
TablesGrowLittle =
    (keys more : List Key) → length (with_keys keys more) ≤ length keys + length more

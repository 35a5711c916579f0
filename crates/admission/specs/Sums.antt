-- What is kept while a line is walked: the sums of units, and the cause of each position.
use Rattle.std.specs.Prelude.{◌≡◌, ℕ, ◌+◌, ◌*◌, ◌%◌, ◌<◌, ◌≤◌, max, Bool, nat_lt, List, length, map, slice_index, All, IfSome, Option, option_map, unwrap_or}
use Rattle.std.specs.List.{IsDistinct, enumerate_from, filter_map}
use Rattle.std.specs.BTreeMap.{BTreeMap, get}
use Rattle.sol_base.specs.declared.key.Key.{Key}
use Rattle.sol_base.specs.Keys.{key_cmp, same_key}
use Rattle.sol_base.specs.Locks.{lock_keys}
use Rattle.admission.specs.declared.chosen.Chosen.{Chosen}
use Rattle.admission.specs.declared.refusal.Refusal.{Refusal}
use Rattle.admission.specs.declared.refusal.Refused.{Refused}
use Rattle.admission.specs.Admission.{late_cause, or_else, units_of, units_on}

-- the sum of a key, and 0 where it has none
abbrev pub sum_at : BTreeMap Key ℕ → Key → ℕ
sum_at sums key = unwrap_or (get key_cmp sums key) 0

-- a limit brings a sum above the most
abbrev pub passes : ℕ → ℕ → ℕ → Bool
passes sum limit most = nat_lt most (sum + limit)

-- a key's bucket, of so many: its first bytes tell it
unfoldable pub bucket_of : ℕ → Key → ℕ
bucket_of count key =
    (slice_index key.0 0 + 256 * slice_index key.0 1 + 65536 * slice_index key.0 2) % max count 1

-- the sum of a key's bucket
abbrev pub bucket_sum : List ℕ → Key → ℕ
bucket_sum buckets key = slice_index buckets (bucket_of (length buckets) key)

-- the sums of single keys, where they are told apart
abbrev pub AreSums : List Chosen → Option (BTreeMap Key ℕ) → Type 0
AreSums order sums = IfSome sums (λ sums. (key : Key) → sum_at sums key ≡ units_on key order)

-- the sums are those of the transactions: of all, of each key at most that of its bucket, and of
-- each key where they are told apart
pub record HasSums (order : List Chosen) (units : ℕ) (buckets : List ℕ) (sums : Option (BTreeMap Key ℕ)) : Type 0 where
  pub all : units ≡ units_of order
  pub some : 0 < length buckets
  pub most : (key : Key) → units_on key order ≤ bucket_sum buckets key
  pub each : AreSums order sums
  pub apart : All (λ one. IsDistinct same_key (lock_keys one.locks)) order

-- ---- the causes, one for each position

-- the late cause of a position, or the one that it has
abbrev pub cause_with : List Refused → ℕ × Option Refusal → Option Refusal
cause_with refused (position, cause) = or_else (late_cause refused position) cause

abbrev pub with_late : List Refused → List (Option Refusal) → List (Option Refusal)
with_late refused causes = map (cause_with refused) (enumerate_from 0 causes)

-- a cause with its position
abbrev pub numbered_at : ℕ × Option Refusal → Option Refused
numbered_at (position, cause) =
    option_map (λ cause. record { position = position; cause = cause }) cause

abbrev pub numbered_in : List (Option Refusal) → List Refused
numbered_in causes = filter_map numbered_at (enumerate_from 0 causes)

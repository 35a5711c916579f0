-- The keys that most transactions wait at (the project's own).
use Rattle.std.specs.Prelude.{◌≡◌, ◌≤◌, Bool, List, All, Contains, IsSortedBy, filter, map, take, nat_lt}
use Rattle.std.specs.List.{IsDistinct}
use Rattle.std.specs.Ordering.{is_lt, nat_cmp, ordering_then}
use Rattle.sol_base.specs.declared.key.Key.{Key}
use Rattle.sol_base.specs.Keys.{key_cmp, same_key}
use Rattle.admission.specs.declared.chosen.Chosen.{Chosen}
use Rattle.block_shape.specs.declared.most.Waited.{Waited}
use Rattle.block_shape.specs.declared.waits.Wait.{Wait}
use Rattle.block_shape.specs.Waits.{waits_at}

abbrev pub keys_waited : List Waited → List Key
keys_waited waited = map (λ one. one.key) waited

-- more wait at the one, or as many and its key is less
abbrev pub stands_before : Waited → Waited → Bool
stands_before one other =
    is_lt (ordering_then (nat_cmp other.count one.count) (key_cmp one.key other.key))

-- all keys where some wait, each once, with how many do
pub record AreWaited (order : List Chosen) (all : List Waited) : Type 0 where
  pub counts : All (λ one. one.count ≡ waits_at order one.key) all
  pub some : All (λ one. 1 ≤ one.count) all
  pub every : (key : Key) → 1 ≤ waits_at order key → Contains (keys_waited all) key
  pub apart : IsDistinct same_key (keys_waited all)

-- the first ten of them, the key first where most wait, and of equal ones the least key
pub record AreMost (order : List Chosen) (most : List Waited) : Type 0 where
  pub all : List Waited
  pub waited : AreWaited order all
  pub sorted : IsSortedBy stands_before all
  pub first : most ≡ take 10 all

-- ---- what is kept for each key

abbrev pub waited_of : Key × Wait → Waited
waited_of e = record { key = e.0; count = e.1.count }

abbrev pub is_waited : Key × Wait → Bool
is_waited e = nat_lt 0 e.1.count

abbrev pub waited_in : List (Key × Wait) → List Waited
waited_in entries = map waited_of (filter is_waited entries)

-- Hashes that are looked for among many.
use Rattle.std.specs.Prelude.{◌≡◌, ℕ, ◌+◌, ◌*◌, ◌/◌, Bool, true, false, List, length, slice_index_or}
use Rattle.std.specs.BTreeSet.{BTreeSet}
use Rattle.sol_base.specs.declared.key.Hash32.{Hash32}
use Rattle.status_cache.specs.Recent.{has_name}
use Rattle.status_cache.specs.declared.among.TheConstants.{PREFIXES}

-- the first 20 bits of a hash as a number
abbrev pub prefix_of : Hash32 → ℕ
prefix_of hash =
    slice_index_or hash.0 0 0 * 4096 + slice_index_or hash.0 1 0 * 16 + slice_index_or hash.0 2 0 / 16

-- each prefix has its place, and that of a hash that is looked for is marked
pub record IsSought (hashes : BTreeSet Hash32) (prefixes : List Bool) : Type 0 where
  pub long : length prefixes ≡ PREFIXES
  pub marked : (hash : Hash32) → has_name hashes hash ≡ true
      → slice_index_or prefixes (prefix_of hash) false ≡ true

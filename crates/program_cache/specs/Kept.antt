-- What is kept in memory for keys, as what is found under them.
use Rattle.std.specs.Prelude.{◌≡◌, List, length, map as each}
use Rattle.std.specs.List.{zip}
use Rattle.std.specs.List.Sorted.{IsStrictlySortedBy}
use Rattle.sol_base.specs.declared.key.Key.{Key}
use Rattle.sol_base.specs.Keys.{key_cmp}
use Rattle.program_cache.specs.Programs.{Sought, Listing, IsReady, IsAbsent, IsNoProgram, IsBad, IsUnverified}
use Rattle.program_cache.specs.declared.kept.Kept.{Kept}
use Rattle.program_cache.specs.declared.kept.Kept.TheVariants.{Ready, Absent, NotProgram, Bad, Unverified}

abbrev pub kept_as : Kept → Sought
kept_as (Ready image) = IsReady image
kept_as Absent = IsAbsent
kept_as NotProgram = IsNoProgram
kept_as Bad = IsBad
kept_as (Unverified fault) = IsUnverified fault

-- keys, each with what is kept for it
abbrev pub listing : List Key → List Kept → Listing
listing keys kept = zip keys (each kept_as kept)

-- something is kept for each key, and the keys ascend
pub record AreKept (keys : List Key) (kept : List Kept) : Type 0 where
  pub long : length kept ≡ length keys
  pub ascend : IsStrictlySortedBy key_cmp keys

-- How many transactions a batch says that it has, by what stands before them.
use Rattle.std.specs.Prelude.{ℕ, List, codes, nat_eq, Option, None, option_map, option_and_then, if◌then◌else◌}
use Rattle.std.specs.List.{starts_with}
use Rattle.snapshot_codec.specs.Length.{behind, count_in_front}

-- the number behind magic, slot and collector, where the bytes begin with the magic of a batch
unfoldable pub told_count : List ℕ → Option ℕ
told_count bytes =
    if starts_with nat_eq bytes (codes "SOLBATC1") then
    option_map (λ counted. counted.0) (option_and_then count_in_front (behind 48 bytes))
    else None

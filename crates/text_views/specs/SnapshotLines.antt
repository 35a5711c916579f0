-- The lines of two snapshots that differ (the project's own).
use Rattle.std.specs.Prelude.{ℕ, [], ◌++◌, codes, Option, Some, None}
use Rattle.std.specs.List.{flat_map}
use Rattle.sol_base.specs.Keys.{hash_bytes}
use Rattle.sol_base.specs.declared.limits.Limits.{Limits}
use Rattle.status_cache.specs.declared.recent.Mark.{Mark}
use Rattle.snapshot_codec.specs.declared.snapshot.Snapshot.{Snapshot}
use Rattle.text_views.specs.Fields.{Text, numbered, number_line, bytes_line, only_in_a, only_in_b}
use Rattle.text_views.specs.Pairs.{pairs_lines}
use Rattle.text_views.specs.AccountLines.{accounts_lines}

abbrev pub mark_place : ℕ → Text
mark_place at = numbered (codes "mark ") at

-- the hash, and the names of the messages one after the other
abbrev pub mark_lines : ℕ → Mark → Mark → Text
mark_lines at left right =
    bytes_line (mark_place at) (codes "hash") left.hash.0 right.hash.0
    ++ bytes_line (mark_place at) (codes "messages") (flat_map hash_bytes left.messages)
    (flat_map hash_bytes right.messages)

abbrev pub mark_pair : ℕ → Option Mark → Option Mark → Text
mark_pair at (Some left) (Some right) = mark_lines at left right
mark_pair at (Some left) None = only_in_a (mark_place at)
mark_pair at None (Some right) = only_in_b (mark_place at)
mark_pair at None None = []

unfoldable pub limits_lines : Limits → Limits → Text
limits_lines left right =
    number_line (codes "limits") (codes "keys") left.keys right.keys
    ++ number_line (codes "limits") (codes "height") left.height right.height
    ++ number_line (codes "limits") (codes "key_units") left.key_units right.key_units
    ++ number_line (codes "limits") (codes "block_units") left.block_units right.block_units

unfoldable pub snapshot_lines : Snapshot → Snapshot → Text
snapshot_lines left right =
    number_line (codes "snapshot") (codes "slot") left.slot right.slot
    ++ limits_lines left.limits right.limits
    ++ pairs_lines mark_pair left.recent right.recent
    ++ accounts_lines left.accounts right.accounts

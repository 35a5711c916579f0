-- The lines of two records that differ (the project's own).
use Rattle.std.specs.Prelude.{ℕ, [], ◌++◌, codes, Option, Some, None}
use Rattle.block_record.specs.declared.block.Entry.{Entry}
use Rattle.block_record.specs.declared.block.Block.{Block}
use Rattle.text_views.specs.Fields.{Text, numbered, number_line, bytes_line, text_line, status_line, only_in_a, only_in_b}
use Rattle.text_views.specs.Pairs.{pairs_lines}

-- the log lines of an entry
abbrev pub line_place : Text → ℕ → Text
line_place entry at = entry ++ numbered (codes " line ") at

abbrev pub line_pair : Text → ℕ → Option Text → Option Text → Text
line_pair entry at (Some left) (Some right) =
    text_line (line_place entry at) (codes "text") left right
line_pair entry at (Some left) None = only_in_a (line_place entry at)
line_pair entry at None (Some right) = only_in_b (line_place entry at)
line_pair entry at None None = []

abbrev pub entry_place : ℕ → Text
entry_place at = numbered (codes "entry ") at

unfoldable pub entry_lines : ℕ → Entry → Entry → Text
entry_lines at left right =
    bytes_line (entry_place at) (codes "transaction") left.wire right.wire
    ++ status_line (entry_place at) left.status right.status
    ++ number_line (entry_place at) (codes "units") left.units right.units
    ++ number_line (entry_place at) (codes "fee") left.fee right.fee
    ++ pairs_lines (line_pair (entry_place at)) left.lines right.lines

abbrev pub entry_pair : ℕ → Option Entry → Option Entry → Text
entry_pair at (Some left) (Some right) = entry_lines at left right
entry_pair at (Some left) None = only_in_a (entry_place at)
entry_pair at None (Some right) = only_in_b (entry_place at)
entry_pair at None None = []

unfoldable pub block_lines : Block → Block → Text
block_lines left right =
    number_line (codes "block") (codes "slot") left.slot right.slot
    ++ bytes_line (codes "block") (codes "collector") left.collector.0 right.collector.0
    ++ bytes_line (codes "block") (codes "previous") left.previous.0 right.previous.0
    ++ pairs_lines entry_pair left.entries right.entries
    ++ number_line (codes "block") (codes "burned") left.burned right.burned
    ++ number_line (codes "block") (codes "collected") left.collected right.collected
    ++ bytes_line (codes "block") (codes "state") left.state.0 right.state.0
    ++ bytes_line (codes "block") (codes "hash") left.hash.0 right.hash.0

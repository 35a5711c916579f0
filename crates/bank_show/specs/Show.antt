-- A block record as one JSON object (the project's own form), as `serde_json` writes it without
-- spaces.
use Rattle.std.specs.Prelude.{ℕ, List, map, codes}
use Rattle.hex.specs.Hex.{encode_lower}
use Rattle.serde_json.specs.Data.{Data, number, unsigned, string, array, object, member, no_members}
use Rattle.serde_json.specs.View.{items_of}
use Rattle.serde_json.specs.Written.{compact_text}
use Rattle.tx_report.specs.Statuses.{status_text_of}
use Rattle.block_record.specs.declared.block.Entry.{Entry}
use Rattle.block_record.specs.declared.block.Block.{Block}

-- bytes as a text of hexadecimal digits
abbrev pub hex_json : List ℕ → Data
hex_json bytes = string (encode_lower bytes)

-- lines as texts
abbrev pub lines_json : List (List ℕ) → Data
lines_json lines = array (items_of (map string lines))

-- an entry, its members in the order of their names
abbrev pub entry_json : Entry → Data
entry_json entry =
    object (member (codes "fee") (number (unsigned entry.fee))
    (member (codes "lines") (lines_json entry.lines)
    (member (codes "status") (string (status_text_of entry.status))
    (member (codes "transaction") (hex_json entry.wire)
    (member (codes "units") (number (unsigned entry.units)) no_members)))))

abbrev pub entries_json : List Entry → Data
entries_json entries = array (items_of (map entry_json entries))

-- a block, its members in the order of their names
abbrev pub block_json : Block → Data
block_json block =
    object (member (codes "burned") (number (unsigned block.burned))
    (member (codes "collected") (number (unsigned block.collected))
    (member (codes "collector") (hex_json block.collector.0)
    (member (codes "entries") (entries_json block.entries)
    (member (codes "hash") (hex_json block.hash.0)
    (member (codes "previous") (hex_json block.previous.0)
    (member (codes "slot") (number (unsigned block.slot))
    (member (codes "state") (hex_json block.state.0) no_members))))))))

-- the text of a block, with no line feed after it
abbrev pub text_of_block : Block → List ℕ
text_of_block block = compact_text (block_json block)

-- the text of one entry
abbrev pub text_of_entry : Entry → List ℕ
text_of_entry entry = compact_text (entry_json entry)

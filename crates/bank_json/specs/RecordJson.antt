-- Records as JSON (the project's own form), and the bytes that such JSON stands for.
use Rattle.std.specs.Prelude.{ℕ, ◌-◌, ◌^◌, List, [], ◌∷◌, ◌++◌, length, codes, bytes_eq, is_some, if◌then◌else◌, Option, Some, None, option_and_then, Result, Ok, Err}
use Rattle.std.specs.Int.{w16, w32, w64, to_le_bytes}
use Rattle.std.specs.Str.{is_utf8}
use Rattle.spec_base.specs.Bytes.{max_count, sized_bytes}
use Rattle.spec_base.specs.Reading.{◌>>=◌}
use Rattle.sol_base.specs.Limits.{max_transactions}
use Rattle.serde_json.specs.Data.{Data, null, string, object, member, no_members}
use Rattle.serde_json.specs.Find.{get, as_str}
use Rattle.tx_report.specs.declared.status.Status.{Status}
use Rattle.tx_report.specs.declared.status.Status.TheVariants.{Good, Failed, Dropped}
use Rattle.tx_report.specs.Causes.{code_of, drop_code_of}
use Rattle.tx_report.specs.Statuses.{part_bytes}
use Rattle.block_record.specs.declared.fault.RecordFault.{RecordFault}
use Rattle.block_record.specs.declared.block.Entry.{Entry}
use Rattle.block_record.specs.declared.block.Block.{Block}
use Rattle.block_record.specs.RecordReading.{record_of}
use Rattle.json_parts.specs.declared.fault.Wanted.TheVariants.{Text, Ending}
use Rattle.json_parts.specs.declared.fault.JsonFault.TheVariants.{BadRecord}
use Rattle.json_parts.specs.Faults.{Read}
use Rattle.json_parts.specs.Written.{hex_json, number_json, list_json}
use Rattle.json_parts.specs.Parts.{or_refused, if_short, number_in, digits_in, member_in, known_in, list_in}
use Rattle.json_parts.specs.TransactionJson.{transaction_json, transaction_in}

-- ---- what is written

-- a line is a text; no record has another
abbrev pub line_json : List ℕ → Data
line_json line = if is_utf8 line then string line else null

abbrev pub status_json : Status → Data
status_json Good = string (codes "ok")
status_json (Failed index cause detail) =
    object (member (codes "failed")
    (object (member (codes "code") (number_json (code_of cause))
    (member (codes "detail") (number_json detail)
    (member (codes "index") (number_json index) no_members)))) no_members)
status_json (Dropped cause) =
    object (member (codes "dropped") (number_json (drop_code_of cause)) no_members)

abbrev pub entry_json : Entry → Data
entry_json entry =
    object (member (codes "fee") (number_json entry.fee)
    (member (codes "lines") (list_json line_json entry.lines)
    (member (codes "status") (status_json entry.status)
    (member (codes "transaction") (transaction_json entry.wire)
    (member (codes "units") (number_json entry.units) no_members)))))

abbrev pub record_json : Block → Data
record_json block =
    object (member (codes "burned") (number_json block.burned)
    (member (codes "collected") (number_json block.collected)
    (member (codes "collector") (hex_json block.collector.0)
    (member (codes "entries") (list_json entry_json block.entries)
    (member (codes "hash") (hex_json block.hash.0)
    (member (codes "previous") (hex_json block.previous.0)
    (member (codes "slot") (number_json block.slot)
    (member (codes "state") (hex_json block.state.0) no_members))))))))

abbrev pub json_by_record : Result Block RecordFault → Read Data
json_by_record (Ok block) = Ok (record_json block)
json_by_record (Err fault) = Err (BadRecord fault)

-- the JSON of the record that the bytes are
unfoldable pub data_of_record : List ℕ → Read Data
data_of_record bytes = json_by_record (record_of bytes)

-- ---- what is read

abbrev pub failure_names : List (List ℕ)
failure_names = codes "code" ∷ codes "detail" ∷ codes "index" ∷ []

abbrev pub failed_names : List (List ℕ)
failed_names = codes "failed" ∷ []

abbrev pub dropped_names : List (List ℕ)
dropped_names = codes "dropped" ∷ []

-- a member `shown` is passed over
abbrev pub entry_names : List (List ℕ)
entry_names =
    codes "fee" ∷ codes "lines" ∷ codes "shown" ∷ codes "status" ∷ codes "transaction" ∷ codes "units" ∷ []

abbrev pub record_names : List (List ℕ)
record_names =
    codes "burned" ∷ codes "collected" ∷ codes "collector" ∷ codes "entries" ∷ codes "hash"
    ∷ codes "previous" ∷ codes "slot" ∷ codes "state" ∷ []

-- a line behind its length
unfoldable pub line_in : Data → Read (List ℕ)
line_in d = do
  line ← or_refused (option_and_then (if_short max_count) (as_str d)) Text
  Ok (sized_bytes line)

unfoldable pub failure_in : Data → Read (List ℕ)
failure_in d = do
  known ← known_in failure_names d
  index ← member_in (codes "index") (number_in 0 (2 ^ 8 - 1)) d
  code ← member_in (codes "code") (number_in 0 (2 ^ 16 - 1)) d
  detail ← member_in (codes "detail") (number_in 0 (2 ^ 32 - 1)) d
  Ok (part_bytes 1 index code detail)

unfoldable pub failed_in : Data → Read (List ℕ)
failed_in d = do
  known ← known_in failed_names d
  member_in (codes "failed") failure_in d

unfoldable pub dropped_in : Data → Read (List ℕ)
dropped_in d = do
  known ← known_in dropped_names d
  code ← member_in (codes "dropped") (number_in 0 (2 ^ 16 - 1)) d
  Ok (part_bytes 2 0 code 0)

abbrev pub ending_in : Data → Read (List ℕ)
ending_in d = if is_some (get (codes "failed") d) then failed_in d else dropped_in d

abbrev pub ending_named : List ℕ → Option (List ℕ)
ending_named text = if bytes_eq text (codes "ok") then Some (part_bytes 0 0 0 0) else None

abbrev pub status_by : Option (List ℕ) → Data → Read (List ℕ)
status_by (Some text) d = or_refused (ending_named text) Ending
status_by None d = ending_in d

-- the text `ok`, or an object with `failed` or `dropped`
unfoldable pub status_in : Data → Read (List ℕ)
status_in d = status_by (as_str d) d

unfoldable pub entry_in : Data → Read (List ℕ)
entry_in d = do
  known ← known_in entry_names d
  transaction ← member_in (codes "transaction") transaction_in d
  status ← member_in (codes "status") status_in d
  units ← member_in (codes "units") (number_in 0 (2 ^ 64 - 1)) d
  fee ← member_in (codes "fee") (number_in 0 (2 ^ 64 - 1)) d
  lines ← member_in (codes "lines") (list_in max_count line_in) d
  Ok (to_le_bytes w16 (length transaction) ++ transaction ++ status ++ to_le_bytes w64 units ++ to_le_bytes w64 fee ++ to_le_bytes w16 lines.0 ++ lines.1)

-- what stands before the entries
unfoldable pub heading_in : Data → Read (List ℕ)
heading_in d = do
  known ← known_in record_names d
  slot ← member_in (codes "slot") (number_in 0 (2 ^ 64 - 1)) d
  collector ← member_in (codes "collector") (digits_in 32) d
  previous ← member_in (codes "previous") (digits_in 32) d
  Ok (codes "SOLBLCK1" ++ to_le_bytes w64 slot ++ collector ++ previous)

-- and after them
unfoldable pub closing_in : Data → Read (List ℕ)
closing_in d = do
  burned ← member_in (codes "burned") (number_in 0 (2 ^ 64 - 1)) d
  collected ← member_in (codes "collected") (number_in 0 (2 ^ 64 - 1)) d
  state ← member_in (codes "state") (digits_in 32) d
  hash ← member_in (codes "hash") (digits_in 32) d
  Ok (to_le_bytes w64 burned ++ to_le_bytes w64 collected ++ state ++ hash)

-- the bytes that the members spell
unfoldable pub record_in : Data → Read (List ℕ)
record_in d = do
  heading ← heading_in d
  entries ← member_in (codes "entries") (list_in max_transactions entry_in) d
  closing ← closing_in d
  Ok (heading ++ to_le_bytes w32 entries.0 ++ entries.1 ++ closing)

-- the bytes, where they are a record
abbrev pub if_record : List ℕ → Result Block RecordFault → Read (List ℕ)
if_record bytes (Ok block) = Ok bytes
if_record bytes (Err fault) = Err (BadRecord fault)

-- the bytes of the record that the JSON is
unfoldable pub record_of_data : Data → Read (List ℕ)
record_of_data d = do
  bytes ← record_in d
  if_record bytes (record_of bytes)

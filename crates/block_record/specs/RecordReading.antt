-- Reading a record from left to right, with the first refusal that is met.
use Rattle.std.specs.Prelude.{ℕ, List, length, codes, bytes_eq, Bool, true, false, nat_le, Result, Ok}
use Rattle.std.specs.Int.{w16, w32, w64}
use Rattle.std.specs.Str.{is_utf8}
use Rattle.spec_base.specs.Reading.{◌>>=◌, field_at, number_at, read_if, many, place, whole}
use Rattle.format_fields.specs.Fields.{key_at, hash_at}
use Rattle.sol_base.specs.Limits.{max_transactions}
use Rattle.message_codec.specs.Wire.{max_wire_len}
use Rattle.tx_report.specs.Statuses.{status_at}
use Rattle.block_record.specs.declared.fault.RecordFault.{RecordFault}
use Rattle.block_record.specs.declared.fault.RecordFault.TheVariants.{Truncated, BadField, Trailing, OutOfMemory}
use Rattle.block_record.specs.declared.block.Entry.{Entry}
use Rattle.block_record.specs.declared.block.Block.{Block}
use Rattle.block_record.specs.declared.block.Front.{Front}

abbrev pub is_record_memory : RecordFault → Bool
is_record_memory (Truncated _) = false
is_record_memory (BadField _) = false
is_record_memory (Trailing _) = false
is_record_memory OutOfMemory = true

-- what a record holds at the front of the bytes that are left
abbrev pub Read : Type 0 → Type 0
Read X = Result (X × List ℕ) RecordFault

unfoldable pub magic_at : ℕ → List ℕ → Read (List ℕ)
magic_at total bytes =
    read_if BadField (λ magic. bytes_eq magic (codes "SOLBLCK1")) (field_at Truncated total 8) total
    bytes

unfoldable pub wire_len_at : ℕ → List ℕ → Read ℕ
wire_len_at total bytes =
    read_if BadField (λ n. nat_le n max_wire_len) (number_at Truncated w16 total) total bytes

-- a transaction, one field after its length
unfoldable pub wire_at : ℕ → List ℕ → Read (List ℕ)
wire_at total bytes = do
  count ← wire_len_at total bytes
  field_at Truncated total count.0 count.1

-- a field that is a text
unfoldable pub text_at : ℕ → ℕ → List ℕ → Read (List ℕ)
text_at total count bytes = read_if BadField is_utf8 (field_at Truncated total count) total bytes

-- a line, one field after its length
unfoldable pub line_at : ℕ → List ℕ → Read (List ℕ)
line_at total bytes = do
  count ← number_at Truncated w16 total bytes
  text_at total count.0 count.1

unfoldable pub lines_at : ℕ → List ℕ → Read (List (List ℕ))
lines_at total bytes = do
  count ← number_at Truncated w16 total bytes
  many (line_at total) count.0 count.1

unfoldable pub entry_at : ℕ → List ℕ → Read Entry
entry_at total bytes = do
  wire ← wire_at total bytes
  status ← status_at Truncated BadField total wire.1
  units ← number_at Truncated w64 total status.1
  fee ← number_at Truncated w64 total units.1
  lines ← lines_at total fee.1
  Ok (
    record {
      wire = wire.0;
      status = status.0;
      units = units.0;
      fee = fee.0;
      lines = lines.0;
    },
    lines.1,
  )

unfoldable pub entry_count_at : ℕ → List ℕ → Read ℕ
entry_count_at total bytes =
    read_if BadField (λ n. nat_le n max_transactions) (number_at Truncated w32 total) total bytes

unfoldable pub entries_at : ℕ → List ℕ → Read (List Entry)
entries_at total bytes = do
  count ← entry_count_at total bytes
  many (entry_at total) count.0 count.1

unfoldable pub block_at : ℕ → List ℕ → Read Block
block_at total bytes = do
  magic ← magic_at total bytes
  slot ← number_at Truncated w64 total magic.1
  collector ← key_at Truncated total slot.1
  previous ← hash_at Truncated total collector.1
  entries ← entries_at total previous.1
  burned ← number_at Truncated w64 total entries.1
  collected ← number_at Truncated w64 total burned.1
  state ← hash_at Truncated total collected.1
  hash ← hash_at Truncated total state.1
  Ok (
    record {
      slot = slot.0;
      collector = collector.0;
      previous = previous.0;
      entries = entries.0;
      burned = burned.0;
      collected = collected.0;
      state = state.0;
      hash = hash.0;
    },
    hash.1,
  )

-- the block whose record the bytes are, or the first refusal
unfoldable pub record_of : List ℕ → Result Block RecordFault
record_of bytes = do
  block ← block_at (length bytes) bytes
  whole Trailing (length bytes) block

-- the block whose record the bytes begin with, or the first refusal
unfoldable pub front_of : List ℕ → Result Front RecordFault
front_of bytes = do
  block ← block_at (length bytes) bytes
  Ok (record { block = block.0; length = place (length bytes) block.1 })

-- Reading a batch from left to right, with the first refusal that is met.
use Rattle.std.specs.Prelude.{ℕ, List, length, codes, bytes_eq, Bool, true, false, nat_le, nat_lt, Result, Ok}
use Rattle.std.specs.Int.{w16, w32, w64}
use Rattle.spec_base.specs.Reading.{◌>>=◌, field_at, number_at, read_if, many, whole}
use Rattle.format_fields.specs.Fields.{key_at}
use Rattle.sol_base.specs.Limits.{max_transactions}
use Rattle.snapshot_codec.specs.declared.fault.BatchFault.{BatchFault}
use Rattle.snapshot_codec.specs.declared.fault.BatchFault.TheVariants.{Magic, Truncated, TooMany, Trailing, SlotNotLater, OutOfMemory}
use Rattle.snapshot_codec.specs.declared.batch.Batch.{Batch}

abbrev pub is_batch_memory : BatchFault → Bool
is_batch_memory Magic = false
is_batch_memory (Truncated _) = false
is_batch_memory TooMany = false
is_batch_memory (Trailing _) = false
is_batch_memory SlotNotLater = false
is_batch_memory OutOfMemory = true

-- what a batch holds at the front of the bytes that are left
abbrev pub Read : Type 0 → Type 0
Read X = Result (X × List ℕ) BatchFault

unfoldable pub magic_at : ℕ → List ℕ → Read (List ℕ)
magic_at total bytes =
    read_if (λ _. Magic) (λ magic. bytes_eq magic (codes "SOLBATC1")) (field_at Truncated total 8)
    total bytes

-- a slot after the given one
unfoldable pub slot_at : ℕ → ℕ → List ℕ → Read ℕ
slot_at before total bytes =
    read_if (λ _. SlotNotLater) (λ slot. nat_lt before slot) (number_at Truncated w64 total) total
    bytes

unfoldable pub count_at : ℕ → List ℕ → Read ℕ
count_at total bytes =
    read_if (λ _. TooMany) (λ n. nat_le n max_transactions) (number_at Truncated w32 total) total
    bytes

-- a transaction, one field after its length
unfoldable pub wire_at : ℕ → List ℕ → Read (List ℕ)
wire_at total bytes = do
  count ← number_at Truncated w16 total bytes
  field_at Truncated total count.0 count.1

unfoldable pub batch_at : ℕ → ℕ → List ℕ → Read Batch
batch_at before total bytes = do
  magic ← magic_at total bytes
  slot ← slot_at before total magic.1
  collector ← key_at Truncated total slot.1
  count ← count_at total collector.1
  wires ← many (wire_at total) count.0 count.1
  Ok (record { slot = slot.0; collector = collector.0; wires = wires.0 }, wires.1)

-- the batch that the bytes are, after a snapshot of the given slot, or the first refusal
unfoldable pub batch_of : ℕ → List ℕ → Result Batch BatchFault
batch_of before bytes = do
  batch ← batch_at before (length bytes) bytes
  whole Trailing (length bytes) batch

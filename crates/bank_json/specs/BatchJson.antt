-- Batches as JSON (the project's own form), and the bytes that such JSON stands for.
use Rattle.std.specs.Prelude.{ℕ, ◌-◌, ◌^◌, List, [], ◌∷◌, ◌++◌, codes, Result, Ok, Err}
use Rattle.std.specs.Int.{w32, w64, to_le_bytes}
use Rattle.spec_base.specs.Bytes.{sized_bytes}
use Rattle.spec_base.specs.Reading.{◌>>=◌}
use Rattle.serde_json.specs.Data.{Data, object, member, no_members}
use Rattle.sol_base.specs.Limits.{max_transactions}
use Rattle.snapshot_codec.specs.declared.fault.BatchFault.{BatchFault}
use Rattle.snapshot_codec.specs.declared.batch.Batch.{Batch}
use Rattle.snapshot_codec.specs.BatchReading.{batch_of}
use Rattle.json_parts.specs.declared.fault.JsonFault.TheVariants.{BadBatch}
use Rattle.json_parts.specs.Faults.{Read}
use Rattle.json_parts.specs.Written.{hex_json, number_json, list_json}
use Rattle.json_parts.specs.Parts.{number_in, digits_in, member_in, known_in, list_in}
use Rattle.json_parts.specs.TransactionJson.{transaction_json, transaction_in}

abbrev pub batch_json : Batch → Data
batch_json batch =
    object (member (codes "collector") (hex_json batch.collector.0)
    (member (codes "slot") (number_json batch.slot)
    (member (codes "transactions") (list_json transaction_json batch.wires) no_members)))

abbrev pub json_by_batch : Result Batch BatchFault → Read Data
json_by_batch (Ok batch) = Ok (batch_json batch)
json_by_batch (Err fault) = Err (BadBatch fault)

-- the JSON of the batch that the bytes are, for any block after slot 0
unfoldable pub data_of_batch : List ℕ → Read Data
data_of_batch bytes = json_by_batch (batch_of 0 bytes)

abbrev pub batch_names : List (List ℕ)
batch_names = codes "collector" ∷ codes "slot" ∷ codes "transactions" ∷ []

-- a transaction behind its length
unfoldable pub sized_in : Data → Read (List ℕ)
sized_in d = do
  bytes ← transaction_in d
  Ok (sized_bytes bytes)

-- the bytes that the members spell
unfoldable pub batch_in : Data → Read (List ℕ)
batch_in d = do
  known ← known_in batch_names d
  slot ← member_in (codes "slot") (number_in 1 (2 ^ 64 - 1)) d
  collector ← member_in (codes "collector") (digits_in 32) d
  transactions ← member_in (codes "transactions") (list_in max_transactions sized_in) d
  Ok (codes "SOLBATC1" ++ to_le_bytes w64 slot ++ collector ++ to_le_bytes w32 transactions.0 ++ transactions.1)

-- the bytes, where they are a batch
abbrev pub if_batch : List ℕ → Result Batch BatchFault → Read (List ℕ)
if_batch bytes (Ok batch) = Ok bytes
if_batch bytes (Err fault) = Err (BadBatch fault)

-- the bytes of the batch that the JSON is
unfoldable pub batch_of_data : Data → Read (List ℕ)
batch_of_data d = do
  bytes ← batch_in d
  if_batch bytes (batch_of 0 bytes)

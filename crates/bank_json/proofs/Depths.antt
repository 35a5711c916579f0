-- How deep the JSON of each format nests.
use Rattle.std.proofs.Common.{◌≡◌, ◌≤◌, ℕ, List, length, Bool, true, false, Option, Some, None, Result, Ok, Err, subst, lit≤, arith}
use Rattle.std.specs.Prelude.{◌==◌, if◌then◌else◌}
use Rattle.spec_base.proofs.Binding.{ok_same}
use Rattle.json_parts.specs.declared.fault.JsonFault.TheVariants.{Trailing}
use Rattle.std.specs.Str.{is_utf8}
use Rattle.serde_json.specs.Data.{Data, null, string, depth}
use Rattle.sol_base.specs.declared.key.Key.{Key}
use Rattle.sol_base.specs.declared.account.Account.{Account}
use Rattle.status_cache.specs.declared.recent.Mark.{Mark}
use Rattle.account_store.specs.State.{entries}
use Rattle.snapshot_codec.specs.declared.snapshot.Snapshot.{Snapshot}
use Rattle.snapshot_codec.specs.declared.snapshot.Prefix.{Prefix}
use Rattle.snapshot_codec.specs.declared.fault.SnapshotFault.{SnapshotFault}
use Rattle.snapshot_codec.specs.SnapshotReading.{prefix_of}
use Rattle.snapshot_codec.specs.declared.fault.BatchFault.{BatchFault}
use Rattle.snapshot_codec.specs.declared.batch.Batch.{Batch}
use Rattle.snapshot_codec.specs.BatchReading.{batch_of}
use Rattle.tx_report.specs.declared.status.Status.{Status}
use Rattle.tx_report.specs.declared.status.Status.TheVariants.{Good, Failed, Dropped}
use Rattle.block_record.specs.declared.fault.RecordFault.{RecordFault}
use Rattle.block_record.specs.declared.block.Entry.{Entry}
use Rattle.block_record.specs.declared.block.Block.{Block}
use Rattle.block_record.specs.RecordReading.{record_of}
use Rattle.sbpf_verify.specs.Images.{ImageParts, image_in}
use Rattle.json_parts.specs.Faults.{Read}
use Rattle.json_parts.specs.TransactionJson.{transaction_json}
use Rattle.json_parts.proofs.Depths.{list_depth, transaction_depth}
use Rattle.bank_json.specs.BatchJson.{batch_json, json_by_batch, data_of_batch}
use Rattle.bank_json.specs.RecordJson.{line_json, status_json, entry_json, record_json, json_by_record, data_of_record}
use Rattle.bank_json.specs.ImageJson.{json_by_image, data_of_image}
use Rattle.bank_json.specs.SnapshotJson.{name_json, mark_json, account_json, snapshot_json_one, snapshot_json_two, snapshot_json, is_first, json_by_prefix, data_of_snapshot}

mark_depth : (mark : Mark) → depth (mark_json mark) ≤ 4
mark_depth mark = let names = list_depth name_json 0 (λ name. lit≤ tt) mark.messages in omega arith

account_depth : (e : Key × Account) → depth (account_json e) ≤ 4
account_depth (key, account) = lit≤ tt

one_depth : (s : Snapshot) → depth (snapshot_json_one s) ≤ 127
one_depth s =
    let marks = list_depth mark_json 4 mark_depth s.recent in
    let accounts = list_depth account_json 4 account_depth (entries s.accounts) in
    omega arith

two_depth : (s : Snapshot) → depth (snapshot_json_two s) ≤ 127
two_depth s =
    let marks = list_depth mark_json 4 mark_depth s.recent in
    let accounts = list_depth account_json 4 account_depth (entries s.accounts) in
    omega arith

json_depth : (first : Bool) (s : Snapshot) → depth (if first then snapshot_json_one s else snapshot_json_two s) ≤ 127
json_depth true s = one_depth s
json_depth false s = two_depth s

pub snapshot_depth : (bytes : List ℕ) (d : Data) → data_of_snapshot bytes ≡ Ok d → depth d ≤ 127
unfolding data_of_snapshot
snapshot_depth bytes d shown = by_prefix (prefix_of bytes) shown
  where
    by_length : (prefix : Prefix) (whole : Bool) → (if whole then Ok (snapshot_json bytes prefix.snapshot) else Err (Trailing prefix.length)) ≡ (let r : Read Data = Ok d in r) → depth d ≤ 127
    by_length prefix true h = subst (λ (e : Data). depth e ≤ 127) (ok_same _ _ h) (json_depth (is_first bytes) prefix.snapshot)
    by_length prefix false h = absurd (cc)

    by_prefix : (r : Result Prefix SnapshotFault) → json_by_prefix bytes r ≡ Ok d → depth d ≤ 127
    by_prefix (Ok prefix) h = by_length prefix (prefix.length == length bytes) h
    by_prefix (Err fault) h = absurd (cc)

-- ---- batches and records

batch_value_depth : (batch : Batch) → depth (batch_json batch) ≤ 127
batch_value_depth batch = let transactions = list_depth transaction_json 16 transaction_depth batch.wires in omega arith

pub batch_depth : (bytes : List ℕ) (d : Data) → data_of_batch bytes ≡ Ok d → depth d ≤ 127
unfolding data_of_batch
batch_depth bytes d shown = by_batch (batch_of 0 bytes) shown
  where
    by_batch : (r : Result Batch BatchFault) → json_by_batch r ≡ Ok d → depth d ≤ 127
    by_batch (Ok batch) h = subst (λ (e : Data). depth e ≤ 127) (ok_same _ _ h) (batch_value_depth batch)
    by_batch (Err fault) h = absurd (cc)

-- ---- records and images

line_depth : (line : List ℕ) → depth (line_json line) ≤ 0
line_depth line = by_text (is_utf8 line)
  where
    by_text : (b : Bool) → depth (if b then string line else null) ≤ 0
    by_text true = lit≤ tt
    by_text false = lit≤ tt

status_depth : (status : Status) → depth (status_json status) ≤ 4
status_depth Good = lit≤ tt
status_depth (Failed index cause detail) = lit≤ tt
status_depth (Dropped cause) = lit≤ tt

entry_depth : (entry : Entry) → depth (entry_json entry) ≤ 32
entry_depth entry =
    let lines = list_depth line_json 0 line_depth entry.lines in
    let status = status_depth entry.status in
    let transaction = transaction_depth entry.wire in
    omega arith

record_value_depth : (block : Block) → depth (record_json block) ≤ 127
record_value_depth block = let entries = list_depth entry_json 32 entry_depth block.entries in omega arith

pub record_depth : (bytes : List ℕ) (d : Data) → data_of_record bytes ≡ Ok d → depth d ≤ 127
unfolding data_of_record
record_depth bytes d shown = by_record (record_of bytes) shown
  where
    by_record : (r : Result Block RecordFault) → json_by_record r ≡ Ok d → depth d ≤ 127
    by_record (Ok block) h = subst (λ (e : Data). depth e ≤ 127) (ok_same _ _ h) (record_value_depth block)
    by_record (Err fault) h = absurd (cc)

pub image_depth : (bytes : List ℕ) (d : Data) → data_of_image bytes ≡ Ok d → depth d ≤ 127
unfolding data_of_image
image_depth bytes d shown = by_image (image_in bytes) shown
  where
    by_image : (r : Option ImageParts) → json_by_image r ≡ Ok d → depth d ≤ 127
    by_image (Some image) h = subst (λ (e : Data). depth e ≤ 127) (ok_same _ _ h) (lit≤ tt)
    by_image None h = absurd (cc)

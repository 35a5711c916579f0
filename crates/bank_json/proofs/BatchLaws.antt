-- Batches in JSON: what is written stands for the bytes that it was made of.
use Rattle.std.proofs.Common.{◌≡◌, ◌-◌, ◌^◌, ℕ, List, ◌++◌, length, Result, Ok, Err, refl, sym, ap, subst, ◌∙◌, arith}
use Rattle.std.specs.Prelude.{codes}
use Rattle.std.specs.Int.{w16, w32, w64, to_le_bytes}
use Rattle.std.specs.List.{flat_map}
use Rattle.std.proofs.lemmas.List.Elements.{recursion_from_All}
use Rattle.spec_base.specs.Bytes.{IsBytes, sized_bytes}
use Rattle.spec_base.proofs.Binding.{before_bytes, after_bytes, ok_same}
use Rattle.sol_base.specs.Limits.{max_transactions}
use Rattle.snapshot_codec.specs.declared.fault.BatchFault.{BatchFault}
use Rattle.snapshot_codec.specs.declared.batch.Batch.{Batch}
use Rattle.snapshot_codec.specs.Batch.{batch_bytes, IsShortWire, IsBatch}
use Rattle.snapshot_codec.specs.BatchReading.{batch_of}
use Rattle.snapshot_codec.proofs.BatchLaws.{takes}
use Rattle.serde_json.specs.Data.{Data}
use Rattle.json_parts.specs.Written.{hex_json, number_json, list_json}
use Rattle.json_parts.specs.Parts.{number_in, digits_in, known_in, list_in}
use Rattle.json_parts.specs.TransactionJson.{transaction_json}
use Rattle.bank_json.specs.BatchJson.{batch_json, json_by_batch, data_of_batch, sized_in, batch_in, batch_of_data}
use Rattle.json_parts.proofs.Again.{number_again, digits_again, member_again, items_again, list_again}
use Rattle.json_parts.proofs.TransactionLaws.{transaction_again}

sized_again : (wire : List ℕ) → IsShortWire wire → IsBytes (sized_bytes wire) → sized_in (transaction_json wire) ≡ Ok (sized_bytes wire)
unfolding sized_in
sized_again wire short are = rw (transaction_again wire short (after_bytes _ (to_le_bytes w16 (length wire)) wire are refl)) refl

fields_again : (batch : Batch) → IsBatch 0 (batch_bytes batch) batch → IsBytes (batch_bytes batch) → batch_in (batch_json batch) ≡ Ok (batch_bytes batch)
unfolding batch_in known_in
fields_again batch is are =
    let d = batch_json batch in
    let head = codes "SOLBATC1" ++ to_le_bytes w64 batch.slot in
    let count = to_le_bytes w32 (length batch.wires) in
    let wires = flat_map sized_bytes batch.wires in
    let front = before_bytes (head ++ batch.collector.0 ++ count) wires are in
    let collector_are = after_bytes _ head batch.collector.0 (before_bytes (head ++ batch.collector.0) count front) refl in
    let wires_are = after_bytes _ (head ++ batch.collector.0 ++ count) wires are refl in
    rw (
      member_again (codes "slot") (number_in 1 (2 ^ 64 - 1)) d (number_json batch.slot) batch.slot refl
          (number_again 1 (2 ^ 64 - 1) batch.slot (let t = is.later in omega arith)
          (let t = is.slot in omega arith)),
      member_again (codes "collector") (digits_in 32) d (hex_json batch.collector.0) batch.collector.0 refl (digits_again 32 batch.collector.0 is.collector collector_are),
      member_again (codes "transactions") (list_in max_transactions sized_in) d (list_json transaction_json batch.wires) (length batch.wires, wires) refl
          (list_again max_transactions sized_in transaction_json batch.wires wires is.few
          (items_again sized_in transaction_json sized_bytes IsShortWire sized_again 0 batch.wires
          (recursion_from_All IsShortWire batch.wires is.short) wires_are)),
    ) refl

all_again : (bytes : List ℕ) (batch : Batch) → IsBytes bytes → batch_of 0 bytes ≡ Ok batch → batch_of_data (batch_json batch) ≡ Ok bytes
unfolding batch_of_data
all_again bytes batch are read =
    let is = takes 0 bytes batch are read in
    let there = subst (λ (b : List ℕ). IsBatch 0 b batch) is.spelled is in
    let spelled = fields_again batch there (subst IsBytes is.spelled are) ∙ ap Ok (sym is.spelled) in
    rw (spelled, read) refl

pub batches_again : (bytes : List ℕ) (d : Data) → IsBytes bytes → data_of_batch bytes ≡ Ok d → batch_of_data d ≡ Ok bytes
unfolding data_of_batch
batches_again bytes d are shown = by_batch (batch_of 0 bytes) refl shown
  where
    by_batch : (r : Result Batch BatchFault) → batch_of 0 bytes ≡ r → json_by_batch r ≡ Ok d → batch_of_data d ≡ Ok bytes
    by_batch (Ok batch) read h = subst (λ (e : Data). batch_of_data e ≡ Ok bytes) (ok_same _ _ h) (all_again bytes batch are read)
    by_batch (Err fault) read h = absurd (cc)

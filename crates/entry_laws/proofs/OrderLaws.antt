-- The order of a block's entries.
use Rattle.std.proofs.Common.{◌≡◌, ◌∷◌, [], ℕ, List, length, map, refl, ap, ◌∙◌, arith}
use Rattle.std.proofs.lemmas.List.FromFn.{length-map-range_with_len}
use Rattle.tx_report.specs.declared.outcome.Outcome.{Outcome}
use Rattle.account_store.specs.State.{at}
use Rattle.snapshot_codec.specs.declared.batch.Batch.{Batch}
use Rattle.snapshot_codec.specs.declared.snapshot.Snapshot.{Snapshot}
use Rattle.block_record.specs.declared.block.Entry.{Entry}
use Rattle.admission.specs.declared.chosen.Chosen.{Chosen}
use Rattle.admission.specs.Batches.{wire_in}
use Rattle.admission.proofs.PartLaws.{batches_run_by_priority}
use Rattle.bank_law.specs.Serial.{result}
use Rattle.bank_core.specs.Ends.{serial_outcomes}
use Rattle.tx_exec.specs.AdmittedBlock.{job_of}
use Rattle.block_end.specs.Blocks.{entries_of}
use Rattle.block_run.specs.Blocks.{block_result, start_in}
use Rattle.block_run.specs.SerialRun.{told_in}
use Rattle.block_laws.specs.Again.{wires_in}
use Rattle.block_laws.specs.Keeping.{order_of}
use Rattle.block_laws.specs.Parts.{PositionsAreParted}
use Rattle.block_laws.proofs.Positions.{admitted_are_parted}
use Rattle.entry_laws.specs.Order.{AllEntriesAreInOrder}
use Rattle.entry_laws.proofs.EntryLaws.{entries_are}

wires_are : (wires : List (List ℕ)) (order : List Chosen) (outcomes : List Outcome) → length outcomes ≡ length order
    → map (λ (entry : Entry). entry.wire) (entries_of wires order outcomes) ≡ wires_in wires order
wires_are wires [] outcomes count = refl
wires_are wires (t ∷ ts) [] count = absurd (omega (arith, count))
wires_are wires (t ∷ ts) (o ∷ os) count = ap (λ (ws : List (List ℕ)). wire_in wires t.position ∷ ws) (wires_are wires ts os (omega (arith, count)))

parted : (s : Snapshot) (batch : Batch) → PositionsAreParted batch.wires (record { order = order_of s batch; refused = (block_result s batch).refused })
unfolding block_result
parted s batch = admitted_are_parted (start_in s) batch.wires

pub in_order : AllEntriesAreInOrder
in_order s batch =
    let order = order_of s batch in
    let job = job_of (told_in s batch.slot order) in
    record {
      wires = ap (map (λ (entry : Entry). entry.wire)) (entries_are s batch)
          ∙ wires_are batch.wires order (serial_outcomes job (at s.accounts)) (length-map-range_with_len (result job (at s.accounts)) 0 (length order));
      ranked = batches_run_by_priority (start_in s) batch.wires;
      parted = parted s batch;
    }

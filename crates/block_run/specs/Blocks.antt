-- One block: what a batch, and a block that is run again, come to (Solana; the formats, and that
-- dropped transactions stand in the record, are the project's own).
use Rattle.std.specs.Prelude.{ℕ, Bool, true, false, List, [], ◌∷◌, map, take}
use Rattle.snapshot_codec.specs.declared.snapshot.Snapshot.{Snapshot}
use Rattle.snapshot_codec.specs.declared.batch.Batch.{Batch}
use Rattle.block_record.specs.declared.block.Block.{Block}
use Rattle.block_record.specs.declared.block.Listed.{Listed}
use Rattle.admission.specs.declared.chosen.Chosen.{Chosen}
use Rattle.admission.specs.declared.refusal.Refused.{Refused}
use Rattle.admission.specs.Admission.{Start, admitted, listed, start_of}
use Rattle.block_end.specs.declared.block.Head.{Head}
use Rattle.block_end.specs.declared.block.Closed.{Closed}
use Rattle.block_end.specs.Blocks.{closed_with}
use Rattle.block_run.specs.declared.block.BlockResult.{BlockResult}
use Rattle.block_run.specs.SerialRun.{serial_run}

-- what these transactions come to, in their order
unfoldable pub closed : Snapshot → Head → List (List ℕ) → List Chosen → Closed
closed s head wires order = closed_with s head wires order (serial_run s head.slot order)

-- ---- what the calls answer
abbrev pub start_in : Snapshot → Start
start_in s = start_of s.recent s.accounts s.limits

abbrev pub head_of : Batch → Head
head_of batch = record { slot = batch.slot; collector = batch.collector }

-- the block of a batch: its transactions run by priority
unfoldable pub block_result : Snapshot → Batch → BlockResult
block_result s batch =
    let a = admitted (start_in s) batch.wires in
    let end = closed s (head_of batch) batch.wires a.order in
    record { block = end.block; after = end.after; refused = a.refused }

-- those that stand before the first that is refused
abbrev pub before_refused : List Refused → List Chosen → List Chosen
before_refused [] order = order
before_refused (refused ∷ _) order = take refused.position order

abbrev pub is_halted : List Refused → Bool
is_halted [] = false
is_halted (_ ∷ _) = true

abbrev pub wires_of : Block → List (List ℕ)
wires_of given = map (λ entry. entry.wire) given.entries

-- the entries of a block, run again in their order, up to the first that is refused
unfoldable pub listed_result : Snapshot → Block → Listed
listed_result s given =
    let wires = wires_of given in
    let a = listed (start_in s) wires in
    let end = closed s (record { slot = given.slot; collector = given.collector }) wires
    (before_refused a.refused a.order) in
    record { block = end.block; halted = is_halted a.refused }

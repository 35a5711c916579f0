-- A message that was processed, and the blocks that remember it.
use Rattle.std.specs.Prelude.{◌≡◌, ◌≢◌, ℕ, ◌<◌, true, List, [], ◌∷◌, All, length, Ok, Err, IsOk}
use Rattle.sol_base.specs.declared.key.Hash32.{Hash32}
use Rattle.message_codec.specs.declared.message.Loaded.{Loaded}
use Rattle.message_codec.specs.declared.message.Tx.{Tx}
use Rattle.message_codec.specs.Roles.{sanitized}
use Rattle.status_cache.specs.Recent.{knows, max_marks, processed}
use Rattle.tx_report.specs.declared.cause.DropCause.{DropCause}
use Rattle.tx_report.specs.declared.status.Status.TheVariants.{Dropped}
use Rattle.snapshot_codec.specs.declared.batch.Batch.{Batch}
use Rattle.snapshot_codec.specs.declared.snapshot.Snapshot.{Snapshot}
use Rattle.block_record.specs.declared.block.Entry.{Entry}
use Rattle.admission.specs.declared.refusal.Refusal.TheVariants.{AlreadyProcessed}
use Rattle.admission.specs.Admission.{admitted, stands}
use Rattle.admission.specs.Lookups.{load}
use Rattle.block_run.specs.Blocks.{block_result, start_in}
use Rattle.entry_laws.specs.Entries.{IsEntry}

-- the snapshot after the blocks of these batches, one after the other
abbrev pub after_blocks : Snapshot → List Batch → Snapshot
after_blocks s [] = s
after_blocks s (batch ∷ batches) = after_blocks (block_result s batch).after batches

-- The snapshot remembers the message: a transaction with it that is sane, loads its keys and has a
-- blockhash that is known is refused as AlreadyProcessed, and no batch runs one.
pub record Remembers (s : Snapshot) (name : Hash32) : Type 0 where
  pub known : processed s.recent name ≡ true
  pub refused : (tx : Tx) (loaded : Loaded) → IsOk (sanitized tx s.limits.keys)
      → load s.accounts tx.message ≡ Ok loaded → knows s.recent tx.message.blockhash ≡ true
      → stands (start_in s) tx name ≡ Err AlreadyProcessed
  pub never_runs : (wires : List (List ℕ))
      → All (λ t. t.name ≢ name) (admitted (start_in s) wires).order

-- the message of an entry that was not dropped is remembered after the block and after each of the
-- next 149
abbrev pub MessagesRunOnce : Type 0
MessagesRunOnce =
    (s : Snapshot) (batch : Batch) (i : ℕ) (entry : Entry) (tx : Tx) (name : Hash32)
    → IsEntry s batch i entry tx name → ((cause : DropCause) → entry.status ≢ Dropped cause)
    → (later : List Batch) → length later < max_marks
    → Remembers (after_blocks (block_result s batch).after later) name

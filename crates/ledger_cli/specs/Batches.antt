-- What a crash leaves while a batch is run and its block is added to a chain, and after it.
use Rattle.std.specs.Prelude.{◌≡◌, ℕ, List, ◌∷◌, Ok}
use Rattle.snapshot_codec.specs.declared.batch.Batch.{Batch}
use Rattle.snapshot_codec.specs.BatchReading.{batch_of}
use Rattle.block_run.specs.Blocks.{block_result}
use Rattle.ledger_folder.specs.declared.event.Event.{Event}
use Rattle.ledger_folder.specs.declared.event.Event.TheVariants.{FolderSynced}
use Rattle.ledger_folder.specs.Files.{Disk}
use Rattle.ledger_folder.specs.Crash.{Lasts}
use Rattle.ledger_store.specs.declared.opening.Ledger.{Ledger}
use Rattle.ledger_store.specs.Adding.{IsAfter, IsBeforeOrAfter, OnlyReads}
use Rattle.ledger_store.specs.Reading.{IsOpen}

-- every file of another slot is as it was, and the chain is the one before the block that the batch
-- comes to over its newest state, or after it; how long the run took is free
abbrev pub IsWithBatchOrNot : Ledger → Batch → Disk → Disk → Type 0
IsWithBatchOrNot ledger batch disk crashed =
    (micros : ℕ) × IsBeforeOrAfter ledger (block_result ledger.newest batch).block
    (block_result ledger.newest batch).after micros disk crashed

-- every crash leaves the chain with that block; how long the run took is free
abbrev pub Stands : Ledger → Batch → List Event → List Event → Type 0
Stands ledger batch old new =
    (micros : ℕ) × Lasts old new (λ _ crashed. IsAfter ledger (block_result ledger.newest batch).block
    (block_result ledger.newest batch).after micros crashed)

-- The bytes were added to the chain of a folder: the folder was synced before its files were read, they
-- are that chain, the bytes are a batch for it, and the block that it comes to stands.
pub record IsAdded (bytes : List ℕ) (old new : List Event) : Type 0 where
  pub ledger : Ledger
  pub batch : Batch
  pub opened : List Event
  pub reads : OnlyReads (FolderSynced ∷ old) opened
  pub opens : IsOpen opened ledger
  pub given : batch_of ledger.newest.slot bytes ≡ Ok batch
  pub stands : Stands ledger batch opened new

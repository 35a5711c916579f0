-- The steps of a block, which lead from the accounts of its snapshot to those after it.
use Rattle.std.specs.Prelude.{ℕ, List, [], ◌∷◌, ◌++◌, map}
use Rattle.std.specs.List.{enumerate_from, flat_map, zip}
use Rattle.sol_base.specs.declared.key.Key.{Key}
use Rattle.message_codec.specs.Roles.{all_keys}
use Rattle.tx_report.specs.declared.status.Status.{Status}
use Rattle.tx_report.specs.declared.status.Status.TheVariants.{Good, Failed, Dropped}
use Rattle.account_store.specs.State.{at}
use Rattle.snapshot_codec.specs.declared.batch.Batch.{Batch}
use Rattle.snapshot_codec.specs.declared.snapshot.Snapshot.{Snapshot}
use Rattle.block_record.specs.declared.block.Block.{Block}
use Rattle.block_record.specs.declared.block.Entry.{Entry}
use Rattle.admission.specs.declared.chosen.Chosen.{Chosen}
use Rattle.block_run.specs.Blocks.{block_result}
use Rattle.block_laws.specs.Keeping.{CanRun, order_of}
use Rattle.entry_laws.specs.Owners.{stretches_at}
use Rattle.entry_laws.specs.Stretches.{Stretch}
use Rattle.ownership_laws.specs.Steps.{IsPath, Step, Pays, Runs, Clears, Ends}

-- the first key of a transaction pays
abbrev pub payment : List Key → ℕ → List Step
payment [] fee = []
payment (payer ∷ others) fee = Pays payer fee ∷ []

-- the steps of an entry with these keys: none where it was dropped; else its fee is paid, its
-- programs run if it is good, and accounts with no lamports go
abbrev pub steps_by : List Key → ℕ → List Stretch → Status → List Step
steps_by keys fee parts Good = payment keys fee ++ (map (Runs keys) parts ++ Clears ∷ [])
steps_by keys fee parts (Failed index cause detail) = payment keys fee ++ Clears ∷ []
steps_by keys fee parts (Dropped cause) = []

-- those of the entry at a position
abbrev pub steps_at : Snapshot → Batch → ℕ × (Chosen × Entry) → List Step
steps_at s batch (i, (t, entry)) =
    steps_by (all_keys t.tx.message t.loaded) entry.fee (stretches_at s batch i t) entry.status

-- those of all entries of a block, in their order, and its end
abbrev pub steps_of : Snapshot → Batch → List Step
steps_of s batch =
    let block : Block = (block_result s batch).block in
    flat_map (steps_at s batch) (enumerate_from 0 (zip (order_of s batch) block.entries))
    ++ Ends batch.collector block.collected ∷ []

-- they lead from the accounts of the snapshot to those after the block
abbrev pub BlocksGoInSteps : Type 0
BlocksGoInSteps = (s : Snapshot) (batch : Batch) → CanRun s batch.wires
    → IsPath (at s.accounts) (steps_of s batch) (at (block_result s batch).after.accounts)

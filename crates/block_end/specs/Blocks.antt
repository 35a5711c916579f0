-- One block: the record of transactions with their outcomes, and the snapshot after it (Solana; the
-- formats, and that dropped transactions stand in the record, are the project's own).
use Rattle.std.specs.Prelude.{ℕ, ◌+◌, List, [], ◌∷◌, map, replicate, take, Option, Some, None}
use Rattle.std.specs.List.{filter_map, zip}
use Rattle.std.specs.BTreeSet.{insert_key}
use Rattle.sol_base.specs.declared.key.Hash32.{Hash32}
use Rattle.sol_base.specs.Keys.{hash_cmp}
use Rattle.status_cache.specs.declared.recent.Mark.{Mark}
use Rattle.status_cache.specs.Recent.{max_marks, newest_of}
use Rattle.tx_report.specs.declared.outcome.Outcome.{Outcome}
use Rattle.tx_report.specs.declared.status.Status.{Status}
use Rattle.tx_report.specs.declared.status.Status.TheVariants.{Good, Failed, Dropped}
use Rattle.account_store.specs.State.{State}
use Rattle.snapshot_codec.specs.declared.snapshot.Snapshot.{Snapshot}
use Rattle.snapshot_codec.specs.Snapshot.{hash_of_state}
use Rattle.block_record.specs.declared.block.Entry.{Entry}
use Rattle.block_record.specs.declared.block.Block.{Block}
use Rattle.block_record.specs.Record.{hash_of_block}
use Rattle.admission.specs.declared.chosen.Chosen.{Chosen}
use Rattle.admission.specs.Batches.{wire_in}
use Rattle.block_end.specs.declared.block.Head.{Head}
use Rattle.block_end.specs.declared.block.Closed.{Closed}
use Rattle.block_end.specs.Ending.{Ran}
use Rattle.block_end.specs.BlockEnd.{Shares, activate_all, share_fees}

-- ---- the entries
-- a transaction as it came, with its outcome
abbrev pub entry_of : List (List ℕ) → Chosen × Outcome → Entry
entry_of wires (t, outcome) = record {
  wire = wire_in wires t.position;
  status = outcome.status;
  units = outcome.units;
  fee = outcome.base_paid + outcome.priority_paid;
  lines = outcome.lines;
}

abbrev pub entries_of : List (List ℕ) → List Chosen → List Outcome → List Entry
entries_of wires order outcomes = map (entry_of wires) (zip order outcomes)

-- ---- the new mark
-- the name of a message whose transaction was not dropped
abbrev pub processed_by : Hash32 → Status → Option Hash32
processed_by name Good = Some name
processed_by name (Failed _ _ _) = Some name
processed_by name (Dropped _) = None

abbrev pub processed_in : List Chosen → List Outcome → List Hash32
processed_in order outcomes =
    filter_map (λ e. processed_by e.0.name e.1.status) (zip order outcomes)

-- names in ascending order, each once
abbrev pub ascending : List Hash32 → List Hash32
ascending [] = []
ascending (name ∷ names) = insert_key hash_cmp (ascending names) name

abbrev pub mark_of : Hash32 → List Chosen → List Outcome → Mark
mark_of hash order outcomes =
    record { hash = hash; messages = ascending (processed_in order outcomes) }

-- ---- the block
abbrev pub no_hash : Hash32
no_hash = record { 0 = replicate 32 0 }

-- a block as far as it is known by its entries
abbrev pub unsealed : Head → Hash32 → List (List ℕ) → List Chosen → List Outcome → Block
unsealed head previous wires order outcomes = record {
  slot = head.slot;
  collector = head.collector;
  previous = previous;
  entries = entries_of wires order outcomes;
  burned = 0;
  collected = 0;
  state = no_hash;
  hash = no_hash;
}

-- a block with the hash of all that stands before it in the record
abbrev pub sealed : Block → Block
sealed block = record block { hash = hash_of_block block }

abbrev pub block_of : Snapshot → Head → List Entry → Shares → State → Block
block_of s head entries shares accounts = sealed (record {
  slot = head.slot;
  collector = head.collector;
  previous = newest_of s.recent;
  entries = entries;
  burned = shares.burned;
  collected = shares.collected;
  state = hash_of_state accounts;
  hash = no_hash;
})

-- the snapshot after it: the marks with a new one first, no more than a chain remembers
abbrev pub snapshot_of : Snapshot → Head → Mark → State → Snapshot
snapshot_of s head mark accounts = record {
  slot = head.slot;
  limits = s.limits;
  recent = take max_marks (mark ∷ s.recent);
  accounts = accounts;
}

-- a block of a serial run, and the snapshot after it
abbrev pub closed_with : Snapshot → Head → List (List ℕ) → List Chosen → Ran → Closed
closed_with s head wires order ran =
    let shares = share_fees ran.accounts head.collector ran.outcomes in
    let accounts = activate_all shares.accounts in
    let block = block_of s head (entries_of wires order ran.outcomes) shares accounts in
    record {
      block = block;
      after = snapshot_of s head (mark_of block.hash order ran.outcomes) accounts;
    }

-- What the entries of a block come to together.
use Rattle.std.specs.Prelude.{◌≡◌, ℕ, ◌+◌, ◌≤◌, List, filter, map, sum_by}
use Rattle.std.specs.List.{zip}
use Rattle.sol_base.specs.declared.key.Key.{Key}
use Rattle.snapshot_codec.specs.declared.batch.Batch.{Batch}
use Rattle.snapshot_codec.specs.declared.snapshot.Snapshot.{Snapshot}
use Rattle.block_record.specs.declared.block.Block.{Block}
use Rattle.block_record.specs.declared.block.Entry.{Entry}
use Rattle.admission.specs.declared.chosen.Chosen.{Chosen}
use Rattle.admission.specs.Admission.{may_write_key}
use Rattle.block_run.specs.Blocks.{block_result}
use Rattle.block_laws.specs.Keeping.{CanRun, order_of}

-- the fees and the units of entries together
abbrev pub fees_in : List Entry → ℕ
fees_in entries = sum_by (λ entry. entry.fee) entries

abbrev pub units_in : List Entry → ℕ
units_in entries = sum_by (λ entry. entry.units) entries

-- the entries whose transactions may write a key
abbrev pub writers_of : Key → List Chosen → List Entry → List Entry
writers_of key order entries = map (λ e. e.1) (filter (λ e. may_write_key key e.0) (zip order entries))

-- what a block burns and collects is all fees of its entries
abbrev pub FeesAreShared : Type 0
FeesAreShared = (s : Snapshot) (batch : Batch) →
    let block : Block = (block_result s batch).block in block.burned + block.collected ≡ fees_in block.entries

-- the units of the entries, and of those that may write a key, are within the limits
pub record AreWithinLimits (s : Snapshot) (batch : Batch) : Type 0 where
  pub all : units_in (block_result s batch).block.entries ≤ s.limits.block_units
  pub each : (key : Key)
      → units_in (writers_of key (order_of s batch) (block_result s batch).block.entries)
      ≤ s.limits.key_units

abbrev pub UnitsAreWithinLimits : Type 0
UnitsAreWithinLimits = (s : Snapshot) (batch : Batch) → CanRun s batch.wires → AreWithinLimits s batch

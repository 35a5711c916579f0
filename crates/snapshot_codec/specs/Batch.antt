-- The batch of a block as bytes (the project's own format).
use Rattle.std.specs.Prelude.{◌≡◌, ℕ, ◌≤◌, ◌<◌, ◌^◌, List, ◌++◌, length, All, codes}
use Rattle.std.specs.Int.{w32, w64, to_le_bytes}
use Rattle.std.specs.List.{flat_map}
use Rattle.spec_base.specs.Bytes.{max_count, sized_bytes}
use Rattle.sol_base.specs.Keys.{IsKey, key_bytes}
use Rattle.sol_base.specs.Limits.{max_transactions}
use Rattle.snapshot_codec.specs.declared.batch.Batch.{Batch}

-- each transaction follows its length
abbrev pub batch_bytes : Batch → List ℕ
batch_bytes batch =
    codes "SOLBATC1" ++ to_le_bytes w64 batch.slot ++ key_bytes batch.collector
    ++ to_le_bytes w32 (length batch.wires)
    ++ flat_map sized_bytes batch.wires

-- what a length of a transaction can count
abbrev pub IsShortWire : List ℕ → Type 0
IsShortWire wire = length wire ≤ max_count

-- the bytes are that batch, for a slot after the given one
pub record IsBatch (before : ℕ) (bytes : List ℕ) (batch : Batch) : Type 0 where
  pub spelled : bytes ≡ batch_bytes batch
  pub later : before < batch.slot
  pub few : length batch.wires ≤ max_transactions
  pub short : All IsShortWire batch.wires
  pub slot : batch.slot < 2 ^ 64
  pub collector : IsKey batch.collector

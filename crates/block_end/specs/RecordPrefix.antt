-- A record up to some entry, which is hashed, and written, while transactions still run.
use Rattle.std.specs.Prelude.{◌≡◌, ℕ, ◌≤◌, ◌++◌, true, List, length, take}
use Rattle.std.specs.List.{flat_map}
use Rattle.sha2.specs.declared.Sha256.{Sha256}
use Rattle.sha2.specs.Hashers.{Holds256}
use Rattle.tx_report.specs.declared.outcome.Outcome.{Outcome}
use Rattle.block_record.specs.Record.{entry_bytes, heading_bytes}
use Rattle.block_end.specs.declared.block.RecordParts.{RecordParts}
use Rattle.block_end.specs.declared.record_prefix.RecordPrefix.{RecordPrefix}
use Rattle.block_end.specs.Blocks.{entries_of}

-- a record up to the entry of the last of these outcomes
abbrev pub bytes_up_to : RecordParts → List Outcome → List ℕ
bytes_up_to parts outcomes =
    heading_bytes parts.head.now.slot parts.head.now.collector parts.previous
    (length parts.order.now)
    ++ flat_map entry_bytes (entries_of parts.wires.now parts.order.now outcomes)

-- a record is hashed up to the entry of one of these outcomes, and written where it is wanted
pub record IsBegun (parts : RecordParts) (outcomes : List Outcome) (begun : RecordPrefix) : Type 0 where
  pub within : begun.count ≤ length parts.order.now
  pub taken : Holds256 begun.hasher (bytes_up_to parts (take begun.count outcomes))
  pub kept : parts.kept ≡ true → begun.bytes ≡ bytes_up_to parts (take begun.count outcomes)

-- and up to that of the last
pub record IsWritten (parts : RecordParts) (outcomes : List Outcome) (begun : RecordPrefix) : Type 0 where
  pub taken : Holds256 begun.hasher (bytes_up_to parts outcomes)
  pub kept : parts.kept ≡ true → begun.bytes ≡ bytes_up_to parts outcomes

-- a record is written up to the entry of so many outcomes, and hashed but for the last of its bytes
pub record IsAhead (parts : RecordParts) (outcomes : List Outcome) (count : ℕ) (hasher : Sha256) (bytes last : List ℕ) : Type 0 where
  pub hashed : List ℕ
  pub within : count ≤ length parts.order.now
  pub taken : Holds256 hasher hashed
  pub whole : hashed ++ last ≡ bytes_up_to parts (take count outcomes)
  pub kept : parts.kept ≡ true → bytes ≡ bytes_up_to parts (take count outcomes)

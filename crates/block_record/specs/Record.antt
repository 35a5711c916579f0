-- The record of a block as bytes (the project's own format).
use Rattle.std.specs.Prelude.{◌≡◌, ℕ, ◌≤◌, ◌<◌, ◌^◌, List, ◌++◌, length, take, All, codes, IsUtf8}
use Rattle.std.specs.Int.{w16, w32, w64, to_le_bytes}
use Rattle.std.specs.List.{flat_map}
use Rattle.sha2.specs.Sha256.{sha256}
use Rattle.spec_base.specs.Bytes.{sized_bytes}
use Rattle.sol_base.specs.Keys.{IsKey, IsHash, key_bytes, hash_bytes}
use Rattle.sol_base.specs.Limits.{max_transactions}
use Rattle.sol_base.specs.declared.key.Key.{Key}
use Rattle.sol_base.specs.declared.key.Hash32.{Hash32}
use Rattle.message_codec.specs.Wire.{IsCountable, max_wire_len}
use Rattle.tx_report.specs.Statuses.{IsStatus, status_bytes_of}
use Rattle.block_record.specs.declared.block.Entry.{Entry}
use Rattle.block_record.specs.declared.block.EntryParts.{EntryParts}
use Rattle.block_record.specs.declared.block.Block.{Block}
use Rattle.block_record.specs.declared.block.Front.{Front}

-- the number of lines, and the lines
abbrev pub bytes_of_lines : List (List ℕ) → List ℕ
bytes_of_lines lines = to_le_bytes w16 (length lines) ++ flat_map sized_bytes lines

-- the entry that these are the parts of
abbrev pub entry_in : EntryParts → Entry
entry_in parts = record {
  wire = parts.wire.now;
  status = parts.status.now;
  units = parts.units;
  fee = parts.fee;
  lines = parts.lines.now;
}

-- a transaction, how it ended, and what it used, paid and said
abbrev pub entry_bytes : Entry → List ℕ
entry_bytes entry =
    sized_bytes entry.wire ++ status_bytes_of entry.status ++ to_le_bytes w64 entry.units
    ++ to_le_bytes w64 entry.fee
    ++ bytes_of_lines entry.lines

abbrev pub entries_bytes : List Entry → List ℕ
entries_bytes entries = to_le_bytes w32 (length entries) ++ flat_map entry_bytes entries

-- what stands before the entries, of which there are so many
abbrev pub heading_bytes : ℕ → Key → Hash32 → ℕ → List ℕ
heading_bytes slot collector previous count =
    codes "SOLBLCK1" ++ to_le_bytes w64 slot ++ key_bytes collector ++ hash_bytes previous
    ++ to_le_bytes w32 count

-- a block up to the end of its entries
abbrev pub front_bytes : Block → List ℕ
front_bytes block =
    codes "SOLBLCK1" ++ to_le_bytes w64 block.slot ++ key_bytes block.collector
    ++ hash_bytes block.previous
    ++ entries_bytes block.entries

-- what stands between the entries and the block hash
abbrev pub end_bytes : ℕ → ℕ → Hash32 → List ℕ
end_bytes burned collected state =
    to_le_bytes w64 burned ++ to_le_bytes w64 collected ++ hash_bytes state

-- all that the block hash is of
abbrev pub block_bytes : Block → List ℕ
block_bytes block =
    front_bytes block ++ to_le_bytes w64 block.burned ++ to_le_bytes w64 block.collected
    ++ hash_bytes block.state

abbrev pub hash_of_block : Block → Hash32
hash_of_block block = record { 0 = sha256 (block_bytes block) }

-- and then the hash that the block carries
abbrev pub bytes_of_record : Block → List ℕ
bytes_of_record block = block_bytes block ++ hash_bytes block.hash

-- the record of a block as bytes, and the block hash, with which it ends
pub record WholeRecord : Type 0 where
  pub bytes : List ℕ
  pub hash : Hash32

-- a record from its bytes up to the end of its entries, with the block hash at its end
abbrev pub whole_record : List ℕ → ℕ → ℕ → Hash32 → WholeRecord
whole_record front burned collected state =
    let hashed = front ++ end_bytes burned collected state in
    let hash : Hash32 = record { 0 = sha256 hashed } in
    record { bytes = hashed ++ hash_bytes hash; hash = hash }

-- lines that have a spelling
pub record AreCountable (lines : List (List ℕ)) : Type 0 where
  pub few : IsCountable lines
  pub each : All IsCountable lines

-- a block whose counts fit the format
pub record IsCounted (block : Block) : Type 0 where
  pub entries : length block.entries ≤ max_transactions
  pub wires : All (λ entry. length entry.wire ≤ max_wire_len) block.entries
  pub lines : All (λ entry. AreCountable entry.lines) block.entries

-- its lines are texts
abbrev pub HasTexts : Block → Type 0
HasTexts block = All (λ entry. All IsUtf8 entry.lines) block.entries

-- what the types of the fields say of every value
pub record HasWidths (block : Block) : Type 0 where
  pub slot : block.slot < 2 ^ 64
  pub collector : IsKey block.collector
  pub previous : IsHash block.previous
  pub statuses : All (λ entry. IsStatus entry.status) block.entries
  pub units : All (λ entry. entry.units < 2 ^ 64) block.entries
  pub fees : All (λ entry. entry.fee < 2 ^ 64) block.entries
  pub burned : block.burned < 2 ^ 64
  pub collected : block.collected < 2 ^ 64
  pub state : IsHash block.state
  pub hash : IsHash block.hash

-- the bytes are the record of that block
pub record IsRecord (bytes : List ℕ) (block : Block) : Type 0 where
  pub spelled : bytes ≡ bytes_of_record block
  pub counted : IsCounted block
  pub texts : HasTexts block
  pub widths : HasWidths block

-- the bytes begin with the record of that block
pub record BeginsWithRecord (bytes : List ℕ) (front : Front) : Type 0 where
  pub within : front.length ≤ length bytes
  pub is : IsRecord (take front.length bytes) front.block

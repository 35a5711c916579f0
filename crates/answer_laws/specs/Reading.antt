-- What the readings of a snapshot, a batch and a record answer.
use Rattle.std.specs.Prelude.{◌≡◌, ◌↔◌, ℕ, List, Ok}
use Rattle.spec_base.specs.Bytes.{IsBytes}
use Rattle.snapshot_codec.specs.declared.batch.Batch.{Batch}
use Rattle.snapshot_codec.specs.declared.snapshot.Prefix.{Prefix}
use Rattle.snapshot_codec.specs.Batch.{IsBatch}
use Rattle.snapshot_codec.specs.BatchReading.{batch_of}
use Rattle.snapshot_codec.specs.Snapshot.{BeginsWith}
use Rattle.snapshot_codec.specs.SnapshotReading.{prefix_of}
use Rattle.block_record.specs.declared.block.Block.{Block}
use Rattle.block_record.specs.declared.block.Front.{Front}
use Rattle.block_record.specs.Record.{BeginsWithRecord, IsRecord}
use Rattle.block_record.specs.RecordReading.{front_of, record_of}

-- bytes are read as a snapshot exactly where they begin with its spelling
abbrev pub SnapshotsAreReadAsSpelled : Type 0
SnapshotsAreReadAsSpelled = (bytes : List ℕ) (prefix : Prefix) → IsBytes bytes
    → (prefix_of bytes ≡ Ok prefix) ↔ BeginsWith bytes prefix

-- as a batch after a slot exactly where they are its spelling, and it is of a later slot
abbrev pub BatchesAreReadAsSpelled : Type 0
BatchesAreReadAsSpelled = (before : ℕ) (bytes : List ℕ) (batch : Batch) → IsBytes bytes
    → (batch_of before bytes ≡ Ok batch) ↔ IsBatch before bytes batch

-- and as a record exactly where they are its spelling, or begin with it
abbrev pub RecordsAreReadAsSpelled : Type 0
RecordsAreReadAsSpelled = (bytes : List ℕ) (block : Block) → IsBytes bytes
    → (record_of bytes ≡ Ok block) ↔ IsRecord bytes block

abbrev pub FrontsAreReadAsSpelled : Type 0
FrontsAreReadAsSpelled = (bytes : List ℕ) (front : Front) → IsBytes bytes
    → (front_of bytes ≡ Ok front) ↔ BeginsWithRecord bytes front

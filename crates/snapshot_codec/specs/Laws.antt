-- What is written is read again, and what is read may be written.
use Rattle.std.specs.Prelude.{◌≡◌, ℕ, List, ◌++◌, length, Ok}
use Rattle.sol_base.specs.Limits.{first_limits}
use Rattle.snapshot_codec.specs.declared.snapshot.Snapshot.{Snapshot}
use Rattle.snapshot_codec.specs.declared.batch.Batch.{Batch}
use Rattle.snapshot_codec.specs.Snapshot.{snapshot_bytes, snapshot_bytes_one, IsReadable, IsWritable, HasWidths}
use Rattle.snapshot_codec.specs.SnapshotReading.{prefix_of}
use Rattle.snapshot_codec.specs.Batch.{IsBatch, batch_bytes}
use Rattle.snapshot_codec.specs.BatchReading.{batch_of}

-- a snapshot, whatever follows it
abbrev pub SnapshotRoundTrip : Type 0
SnapshotRoundTrip = (s : Snapshot) (rest : List ℕ) → IsReadable s → HasWidths s
    → prefix_of (snapshot_bytes s ++ rest)
    ≡ Ok (record { snapshot = s; length = length (snapshot_bytes s) })

-- a snapshot of version 1
abbrev pub FirstVersionRead : Type 0
FirstVersionRead =
    (s : Snapshot) (rest : List ℕ) → s.limits ≡ first_limits → IsReadable s → HasWidths s
    → prefix_of (snapshot_bytes_one s ++ rest)
    ≡ Ok (record { snapshot = s; length = length (snapshot_bytes_one s) })

-- what is read may be written
abbrev pub ReadableWritten : Type 0
ReadableWritten = (s : Snapshot) → IsReadable s → IsWritable s

-- a batch, for a block after an earlier slot
abbrev pub BatchRoundTrip : Type 0
BatchRoundTrip =
    (before : ℕ) (b : Batch) → IsBatch before (batch_bytes b) b
    → batch_of before (batch_bytes b) ≡ Ok b

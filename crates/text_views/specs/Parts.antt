-- What `produce` wrote, as its two parts: a record, and the snapshot after it (the project's own).
use Rattle.std.specs.Prelude.{◌≡◌, ℕ, ◌-◌, ◌==◌, ◌++◌, List, length, take, drop, if◌then◌else◌, Result, Ok, Err}
use Rattle.spec_base.specs.Bytes.{IsBytes}
use Rattle.snapshot_codec.specs.declared.snapshot.Prefix.{Prefix}
use Rattle.snapshot_codec.specs.declared.fault.SnapshotFault.{SnapshotFault}
use Rattle.snapshot_codec.specs.Snapshot.{BeginsWith}
use Rattle.snapshot_codec.specs.SnapshotReading.{prefix_of}
use Rattle.block_record.specs.declared.block.Block.{Block}
use Rattle.block_record.specs.declared.block.Front.{Front}
use Rattle.block_record.specs.declared.fault.RecordFault.{RecordFault}
use Rattle.block_record.specs.Record.{IsRecord}
use Rattle.block_record.specs.RecordReading.{front_of}
use Rattle.text_views.specs.declared.output.Split.{Split}
use Rattle.text_views.specs.declared.output.Split.TheVariants.{Parts, NoRecord, NoSnapshot, Trailing}

abbrev pub parts_at : ℕ → ℕ → Split
parts_at front left = if left == 0 then Parts front else Trailing left

-- by what the bytes after the record begin with
abbrev pub parts_behind : ℕ → List ℕ → Result Prefix SnapshotFault → Split
parts_behind front rest (Ok prefix) = parts_at front (length rest - prefix.length)
parts_behind front rest (Err fault) = NoSnapshot fault

-- by what the bytes begin with
abbrev pub parts_by : List ℕ → Result Front RecordFault → Split
parts_by bytes (Ok front) =
    parts_behind front.length (drop front.length bytes) (prefix_of (drop front.length bytes))
parts_by bytes (Err fault) = NoRecord fault

unfoldable pub parts_of : List ℕ → Split
parts_of bytes = parts_by bytes (front_of bytes)

-- the bytes are the record of a block
abbrev pub IsOfBlock : List ℕ → Type 0
IsOfBlock bytes = (block : Block) × IsRecord bytes block

-- and these a snapshot, whole
abbrev pub IsOfSnapshot : List ℕ → Type 0
IsOfSnapshot bytes = (prefix : Prefix) × BeginsWith bytes prefix × (prefix.length ≡ length bytes)

-- the parts are what they should be
abbrev pub PartsAreRead : Type 0
PartsAreRead = (bytes : List ℕ) (n : ℕ) → IsBytes bytes → parts_of bytes ≡ Parts n
    → IsOfBlock (take n bytes) × IsOfSnapshot (drop n bytes)

-- and what is so is found
abbrev pub PartsAreFound : Type 0
PartsAreFound = (front back : List ℕ) → IsOfBlock front → IsOfSnapshot back
    → parts_of (front ++ back) ≡ Parts (length front)

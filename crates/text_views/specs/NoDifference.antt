-- No line is written exactly where nothing differs.
use Rattle.std.specs.Prelude.{◌≡◌, ◌↔◌, []}
use Rattle.snapshot_codec.specs.declared.snapshot.Snapshot.{Snapshot}
use Rattle.snapshot_codec.specs.Snapshot as snapshot
use Rattle.block_record.specs.declared.block.Block.{Block}
use Rattle.block_record.specs.Record as record_of
use Rattle.text_views.specs.SnapshotLines.{snapshot_lines}
use Rattle.text_views.specs.BlockLines.{block_lines}

-- two snapshots whose keys and hashes have 32 bytes, as all that are read
abbrev pub SnapshotsAreTold : Type 0
SnapshotsAreTold = (left right : Snapshot) → snapshot.HasWidths left → snapshot.HasWidths right
    → (snapshot_lines left right ≡ []) ↔ (left ≡ right)

-- two blocks whose numbers fit their fields, as all that are read
abbrev pub BlocksAreTold : Type 0
BlocksAreTold = (left right : Block) → record_of.HasWidths left → record_of.HasWidths right
    → (block_lines left right ≡ []) ↔ (left ≡ right)

use Rattle.snapshot_codec.proofs.SnapshotLaws.{readable_written}
use Rattle.snapshot_codec.proofs.laws.readable_snapshots_are_writable.Goals as goal

pub returns : goal.returns
returns c = record { writable = readable_written }

use Rattle.snapshot_codec.proofs.SnapshotLaws.{round_trips}
use Rattle.snapshot_codec.proofs.laws.written_snapshots_are_read.Goals as goal

pub returns : goal.returns
returns c = record { read = round_trips }

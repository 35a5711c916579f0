use Rattle.snapshot_codec.proofs.SnapshotLaws.{prefix_again, prefix_takes}
use Rattle.answer_laws.proofs.reading.snapshots_are_read_as_they_are_spelled.Goals as goal

pub returns : goal.returns
returns c = record { read = λ bytes prefix are. (prefix_takes bytes prefix are, prefix_again bytes prefix) }

use Rattle.snapshot_codec.proofs.SnapshotLaws.{first_version_read}
use Rattle.snapshot_codec.proofs.laws.first_version_is_read.Goals as goal

pub returns : goal.returns
returns c = record { read = first_version_read }

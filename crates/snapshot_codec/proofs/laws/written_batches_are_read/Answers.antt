use Rattle.snapshot_codec.proofs.BatchLaws.{round_trips}
use Rattle.snapshot_codec.proofs.laws.written_batches_are_read.Goals as goal

pub returns : goal.returns
returns c = record { read = round_trips }

use Rattle.snapshot_codec.proofs.BatchLaws.{again, takes}
use Rattle.answer_laws.proofs.reading.batches_are_read_as_they_are_spelled.Goals as goal

pub returns : goal.returns
returns c = record { read = λ before bytes batch are. (takes before bytes batch are, again before bytes batch) }

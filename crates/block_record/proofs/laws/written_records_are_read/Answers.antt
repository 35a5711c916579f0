use Rattle.block_record.proofs.RecordLaws.{round_trips}
use Rattle.block_record.proofs.laws.written_records_are_read.Goals as goal

pub returns : goal.returns
returns c = record { read = round_trips }

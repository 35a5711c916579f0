use Rattle.block_record.proofs.RecordLaws.{again, front_again, front_takes, takes}
use Rattle.answer_laws.proofs.reading.records_are_read_as_they_are_spelled.Goals as goal

pub returns-clause-read : goal.returns-clause-read
returns-clause-read c = λ bytes block are. (takes bytes block are, again bytes block)

pub returns-clause-front : goal.returns-clause-front
returns-clause-front c = λ bytes front are. (front_takes bytes front are, front_again bytes front)

use Rattle.answer_laws.proofs.Matches.{matching_records}
use Rattle.answer_laws.proofs.matching.matching_records_are_the_block.Goals as goal

pub returns : goal.returns
returns c = record { block = matching_records }

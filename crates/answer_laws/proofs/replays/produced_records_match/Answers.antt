use Rattle.answer_laws.proofs.Produced.{records_match}
use Rattle.answer_laws.proofs.replays.produced_records_match.Goals as goal

pub returns : goal.returns
returns c = record { matches = records_match }

use Rattle.answer_laws.proofs.Verdicts.{matches_are}
use Rattle.answer_laws.proofs.replays.matches_are_blocks.Goals as goal

pub returns : goal.returns
returns c = record { blocks = matches_are }

use Rattle.block_laws.proofs.Replays.{replays_match}
use Rattle.block_laws.proofs.replay.replays_match.Goals as goal

pub returns : goal.returns
returns c = record { matches = replays_match }

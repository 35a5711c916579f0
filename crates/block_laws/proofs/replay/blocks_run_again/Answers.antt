use Rattle.block_laws.proofs.Replays.{blocks_run_again}
use Rattle.block_laws.proofs.replay.blocks_run_again.Goals as goal

pub returns : goal.returns
returns c = record { again = blocks_run_again }

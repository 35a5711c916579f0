use Rattle.ownership_laws.proofs.BlockPaths.{go_in_steps}
use Rattle.ownership_laws.proofs.blocks.blocks_keep_what_programs_do_not_own.Goals as goal

pub returns : goal.returns
returns c = record { steps = go_in_steps }

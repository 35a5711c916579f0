use Rattle.block_laws.proofs.Nexts.{next_blocks}
use Rattle.block_laws.proofs.chain.next_blocks_can_be_run.Goals as goal

pub returns : goal.returns
returns c = record { next = next_blocks }

use Rattle.block_laws.proofs.Keeps.{fees_taken, lamports_kept, lamports_kept_again}
use Rattle.block_laws.proofs.keeping.blocks_keep_lamports.Goals as goal

pub returns-clause-fees : goal.returns-clause-fees
returns-clause-fees c = fees_taken

pub returns-clause-burned : goal.returns-clause-burned
returns-clause-burned c = lamports_kept

pub returns-clause-again : goal.returns-clause-again
returns-clause-again c = lamports_kept_again

use Rattle.block_laws.proofs.Conserved.{burned_is_all, fees_leave}
use Rattle.block_laws.proofs.running.lamports_are_conserved.Goals as goal

pub returns-clause-fees : goal.returns-clause-fees
returns-clause-fees c = fees_leave

pub returns-clause-burned : goal.returns-clause-burned
returns-clause-burned c = burned_is_all

use Rattle.width_laws.proofs.Produced.{produced_are_read}
use Rattle.width_laws.proofs.chain.produced_snapshots_are_read.Goals as goal

pub returns : goal.returns
returns c = record { chained = produced_are_read }

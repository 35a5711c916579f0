use Rattle.width_laws.proofs.Afters.{are_read}
use Rattle.width_laws.proofs.after.snapshots_after_blocks_are_read.Goals as goal

pub returns : goal.returns
returns c = record { read = are_read }

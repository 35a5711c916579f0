use Rattle.width_laws.proofs.Afters.{have_widths}
use Rattle.width_laws.proofs.after.snapshots_after_blocks_have_widths.Goals as goal

pub returns : goal.returns
returns c = record { widths = have_widths }

use Rattle.entry_laws.proofs.LeftLaws.{ends_pay_and_activate}
use Rattle.entry_laws.proofs.left.block_ends_pay_and_activate.Goals as goal

pub returns : goal.returns
returns c = record { ends = ends_pay_and_activate }

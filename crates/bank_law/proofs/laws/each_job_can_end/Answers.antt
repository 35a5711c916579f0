use Rattle.bank_law.proofs.Complete.{can_end}
use Rattle.bank_law.proofs.laws.each_job_can_end.Goals as goal

pub returns : goal.returns
returns c = record { end = can_end }

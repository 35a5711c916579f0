use Rattle.bank_law.proofs.Ends.{done_stays}
use Rattle.bank_law.proofs.laws.done_stays_done.Goals as goal

pub returns : goal.returns
returns c = record { done = done_stays }

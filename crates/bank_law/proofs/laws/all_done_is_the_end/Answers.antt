use Rattle.bank_law.proofs.Ends.{all_done_ends}
use Rattle.bank_law.proofs.laws.all_done_is_the_end.Goals as goal

pub returns : goal.returns
returns c = record { end = all_done_ends }

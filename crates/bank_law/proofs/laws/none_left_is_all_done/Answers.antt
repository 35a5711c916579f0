use Rattle.bank_law.proofs.Held.{none_left}
use Rattle.bank_law.proofs.laws.none_left_is_all_done.Goals as goal

pub returns : goal.returns
returns c = record { done = none_left }

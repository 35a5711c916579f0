use Rattle.bank_law.proofs.Ends.{some_ready}
use Rattle.bank_law.proofs.laws.some_position_is_ready.Goals as goal

pub returns : goal.returns
returns c = record { ready = some_ready }

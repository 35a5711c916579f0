use Rattle.bank_law.proofs.Lanes.{lanes_hold}
use Rattle.bank_law.proofs.laws.lanes_hold_their_own.Goals as goal

pub returns : goal.returns
returns c = record { held = lanes_hold }

use Rattle.entry_laws.proofs.OrderLaws.{in_order}
use Rattle.entry_laws.proofs.order.entries_are_in_order.Goals as goal

pub returns : goal.returns
returns c = record { order = in_order }

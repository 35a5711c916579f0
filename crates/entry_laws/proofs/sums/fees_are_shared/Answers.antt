use Rattle.entry_laws.proofs.TotalLaws.{fees_are_shared}
use Rattle.entry_laws.proofs.sums.fees_are_shared.Goals as goal

pub returns : goal.returns
returns c = record { shared = fees_are_shared }

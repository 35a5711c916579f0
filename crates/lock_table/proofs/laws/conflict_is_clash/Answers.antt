use Rattle.lock_table.proofs.Clashes.{conflict_clash}
use Rattle.lock_table.proofs.laws.conflict_is_clash.Goals as goal

pub returns : goal.returns
returns c = record { clash = conflict_clash }

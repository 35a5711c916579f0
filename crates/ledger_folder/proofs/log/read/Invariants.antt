use Rattle.std.proofs.Common.{◌∷◌}
use Rattle.ledger_folder.specs.declared.event.Event.TheVariants.{Read}
use Rattle.ledger_folder.proofs.log.read.Given as goal

abbrev pub ghost-told_by : goal.ghost-told_by
ghost-told_by a = Read a._from.now.1 a._from.now.2.now ∷ a._from.now.0.now.value

use Rattle.std.proofs.Common.{◌∷◌}
use Rattle.ledger_folder.specs.declared.event.Event.TheVariants.{Synced}
use Rattle.ledger_folder.proofs.log.synced.Given as goal

abbrev pub ghost-told_by : goal.ghost-told_by
ghost-told_by a = Synced a._from.now.1 ∷ a._from.now.0.now.value

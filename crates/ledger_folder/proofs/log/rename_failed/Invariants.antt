use Rattle.std.proofs.Common.{◌∷◌}
use Rattle.ledger_folder.specs.declared.event.Event.TheVariants.{RenameFailed}
use Rattle.ledger_folder.proofs.log.rename_failed.Given as goal

abbrev pub ghost-told_by : goal.ghost-told_by
ghost-told_by a = RenameFailed a._from.now.1 ∷ a._from.now.0.now.value

use Rattle.std.proofs.Common.{◌∷◌}
use Rattle.ledger_folder.specs.declared.event.Event.TheVariants.{Spoiled}
use Rattle.ledger_folder.proofs.log.spoiled.Given as goal

abbrev pub ghost-told_by : goal.ghost-told_by
ghost-told_by a = Spoiled a._from.now.1 ∷ a._from.now.0.now.value

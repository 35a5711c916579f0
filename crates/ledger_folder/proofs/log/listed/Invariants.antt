use Rattle.std.proofs.Common.{◌∷◌}
use Rattle.ledger_folder.specs.declared.event.Event.TheVariants.{Listed}
use Rattle.ledger_folder.proofs.log.listed.Given as goal

abbrev pub ghost-told_by : goal.ghost-told_by
ghost-told_by a = Listed a._from.now.1.now ∷ a._from.now.0.now.value

use Rattle.std.proofs.Common.{◌∷◌}
use Rattle.ledger_folder.specs.declared.event.Event.TheVariants.{FolderSynced}
use Rattle.ledger_folder.proofs.log.folder_synced.Given as goal

abbrev pub ghost-told_by : goal.ghost-told_by
ghost-told_by a = FolderSynced ∷ a._from.now.value

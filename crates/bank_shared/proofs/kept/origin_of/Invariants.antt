use Rattle.bank_shared.proofs.kept.origin_of.Given as goal

abbrev pub ghost-told_by : goal.ghost-told_by
ghost-told_by g a = record { origin = a._from.now.origin.value; lanes = a._from.now.lanes }

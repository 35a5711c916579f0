use Rattle.proof_note.proofs.Note.again.Given as goal

abbrev pub ghost-told_by : goal.ghost-told_by
ghost-told_by g a = a._from.now.value

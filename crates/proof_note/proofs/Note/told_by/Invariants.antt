use Rattle.proof_note.proofs.Note.told_by.Given as goal

abbrev pub ghost-make : goal.ghost-make
ghost-make g a = g.noted

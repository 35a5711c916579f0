use Rattle.lane_trials.proofs.tests.notes.noted.Given as goal

abbrev pub ghost-told_by : goal.ghost-told_by
ghost-told_by a = a._from.now

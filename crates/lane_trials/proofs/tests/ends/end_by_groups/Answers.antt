use Rattle.lane_trials.proofs.Trials.{few_locks}
use Rattle.lane_trials.proofs.tests.ends.end_by_groups.Goals as goal

pub new-requires-clause-room : goal.new-requires-clause-room
new-requires-clause-room g c = few_locks c.args.trial.now.locks c.args.trial.now.small

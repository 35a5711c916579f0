use Rattle.lane_trials.proofs.Trials.{few_locks}
use Rattle.lane_trials.proofs.tests.readers.desk_of_two.Goals as goal

pub new-requires-clause-room : goal.new-requires-clause-room
new-requires-clause-room g = few_locks g.args.trial.now.locks g.args.trial.now.small

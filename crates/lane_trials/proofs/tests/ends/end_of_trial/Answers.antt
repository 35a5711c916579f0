use Rattle.lane_trials.proofs.Trials.{few_locks}
use Rattle.lane_trials.proofs.tests.ends.end_of_trial.Goals as goal

pub end_by_lanes-requires-clause-room : goal.end_by_lanes-requires-clause-room
end_by_lanes-requires-clause-room g c = λ κs live. few_locks c.args.trial.now.locks c.args.trial.now.small

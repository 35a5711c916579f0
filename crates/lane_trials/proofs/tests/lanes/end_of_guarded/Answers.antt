use Rattle.lane_trials.proofs.Trials.{few_locks}
use Rattle.lane_trials.proofs.tests.lanes.end_of_guarded.Goals as goal

pub end_by_waves-requires-clause-room : goal.end_by_waves-requires-clause-room
end_by_waves-requires-clause-room g c = λ κs live. few_locks c.args.work.now.trial.locks c.args.work.now.trial.small

pub end_by_lanes-requires-clause-room : goal.end_by_lanes-requires-clause-room
end_by_lanes-requires-clause-room g c = λ κs live. few_locks c.args.work.now.trial.locks c.args.work.now.trial.small

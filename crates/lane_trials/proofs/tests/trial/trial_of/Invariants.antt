use Rattle.std.proofs.Common.{◌<◌, length, All}
use Rattle.lane_trials.specs.Trial.{AreDistinctLists}
use Rattle.lane_trials.proofs.tests.trial.trial_of.Given as goal

abbrev pub invariant-loop-entries : goal.invariant-loop-entries
invariant-loop-entries g l = record {
  distinct : AreDistinctLists l.locks;
  short : All (λ locks. length locks < 100) l.locks;
}

use Rattle.std.proofs.Common.{ap}
use Rattle.account_store.specs.State.{at}
use Rattle.bank_law.specs.Machine.{Run, is_held_by}
use Rattle.bank_law.specs.History.{returns}
use Rattle.lane_trials.proofs.tests.ends.end_by_waves.Goals as goal

pub run_waves-requires-clause-free : goal.run_waves-requires-clause-free
run_waves-requires-clause-free g c =
    let core = c.in_ok-core.core in
    λ κs live lane i. ap (λ j. is_held_by lane ((Run (g.W.Work.job core.origin.value.told) (at core.origin.value.start) j).stage i)) c.in_ok-core.ensures.journal

pub run_waves-requires-clause-none_back : goal.run_waves-requires-clause-none_back
run_waves-requires-clause-none_back g c = λ κs live. ap returns c.in_ok-core.ensures.journal

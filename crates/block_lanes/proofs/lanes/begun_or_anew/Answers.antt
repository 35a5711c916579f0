use Rattle.std.proofs.Common.{IfOk, Ok, Err, Result}
use Rattle.sol_base.specs.declared.memory.OutOfMemory.{OutOfMemory}
use Rattle.block_lanes.proofs.lanes.begun_or_anew.Goals as goal

-- what holds for all holds for one
of_one : {X O : Type 0} (P : O → X → Type 0) (r : Result X OutOfMemory) → IfOk r (λ x. (o : O) → P o x) → (o : O) → IfOk r (P o)
of_one P (Ok x) all o = all o
of_one P (Err e) all o = all

pub returns-in-Err : goal.returns-in-Err
returns-in-Err c = λ outcomes _. of_one _ c.begin_record.result c.begin_record.ensures outcomes

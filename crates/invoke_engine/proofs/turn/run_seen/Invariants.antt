use Rattle.std.proofs.Common.{◌≡◌}
use Rattle.sbpf_machine.specs.Steps.{steps}
use Rattle.sbpf_machine.proofs.Stepping.{to_go}
use Rattle.invoke_engine.proofs.turn.run_seen.Given as goal

abbrev pub invariant-loop-machine : goal.invariant-loop-machine
invariant-loop-machine g l = record {
  same : steps l.machine ≡ steps l.fn.machine;
  lent : l.machine.context.memory.input.lent ≡ l.fn.machine.context.memory.input.lent;
}

abbrev pub decreases-loop-machine : goal.decreases-loop-machine
decreases-loop-machine g l = to_go l.machine

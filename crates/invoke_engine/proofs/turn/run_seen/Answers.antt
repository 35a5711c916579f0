use Rattle.std.proofs.Common.{◌∙◌, sym}
use Rattle.sbpf_machine.proofs.Stepping.{stepped_keeps, stepped_nearer, stepped_same}
use Rattle.invoke_engine.proofs.Turns.{run_lent}
use Rattle.invoke_engine.proofs.turn.run_seen.Goals as goal

pub loop-machine-smaller : goal.loop-machine-smaller
loop-machine-smaller g c = stepped_nearer c.loop-machine.machine c.step.new.self c.in_ok-step.ensures.ok (sym c.is_going.ensures ∙ c.if-is_going.true)

pub loop-machine-preserved : goal.loop-machine-preserved
loop-machine-preserved g c = record {
  same = stepped_same c.loop-machine.machine c.step.new.self c.in_ok-step.ensures.ok ∙ c.loop-machine.invariant.same;
  lent = (stepped_keeps c.loop-machine.machine c.step.new.self c.in_ok-step.ensures.ok).ranges.lent ∙ c.loop-machine.invariant.lent;
}

pub returns-clause-lent : goal.returns-clause-lent
returns-clause-lent g c = run_lent c.loop-machine.machine c.run.new.self c.run.result c.run.ensures.stops c.run.ensures.short ∙ c.loop-machine.invariant.lent

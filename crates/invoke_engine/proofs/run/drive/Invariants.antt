use Rattle.std.proofs.Common.{◌≡◌}
use Rattle.invoke_engine.specs.Invoked.{fixed_in}
use Rattle.invoke_engine.specs.FrameLoop.{Stands, ending_in, measure}
use Rattle.invoke_engine.specs.Starting.{next_as}
use Rattle.invoke_engine.proofs.run.drive.Given as goal

abbrev pub invariant-loop-next : goal.invariant-loop-next
invariant-loop-next g l = record {
  stands : Stands (fixed_in l.context) l.stack (next_as l.next l.carrier);
  same : ending_in (fixed_in l.context) l.stack (next_as l.next l.carrier) ≡ ending_in (fixed_in l.context) l.fn.stack (next_as l.fn.first l.fn.carrier);
}

abbrev pub decreases-loop-next : goal.decreases-loop-next
decreases-loop-next g l = measure l.stack (next_as l.next l.carrier)

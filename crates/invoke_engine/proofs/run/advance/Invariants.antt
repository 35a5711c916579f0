use Rattle.std.proofs.Common.{◌≡◌}
use Rattle.invoke_engine.specs.Invoked.{fixed_in}
use Rattle.invoke_engine.specs.Suspended.{programs_of}
use Rattle.invoke_engine.proofs.Loops.{Working}
use Rattle.invoke_engine.proofs.run.advance.Given as goal

abbrev pub invariant-loop-frame : goal.invariant-loop-frame
invariant-loop-frame g l = record {
  same : l.stack ≡ l.fn.stack;
  works : Working (fixed_in l.context) (programs_of l.stack) l.fn.frame l.fn.carrier l.frame l.carrier;
}

abbrev pub decreases-loop-frame : goal.decreases-loop-frame
decreases-loop-frame g l = l.frame.machine.units

use Rattle.std.proofs.Common.{◌≡◌, true}
use Rattle.sbpf_verify.specs.Places.{is_start}
use Rattle.sbpf_machine.specs.Flows.{GoBack}
use Rattle.sbpf_machine.specs.Steps.{Reaches, going}
use Rattle.sbpf_machine.proofs.run.run_from.Given as goal

abbrev pub invariant-loop-units : goal.invariant-loop-units
invariant-loop-units l = record {
  reached : Reaches (going l.program l.fn.start l.fn.context l.fn.given) (going l.program l.place l.context l.units);
  start : is_start l.program l.place ≡ true;
  backs : GoBack l.program l.context.frames;
}

abbrev pub decreases-loop-units : goal.decreases-loop-units
decreases-loop-units l = l.units

use Rattle.std.proofs.Common.{◌∙◌, ap}
use Rattle.sbpf_machine.specs.Plain.{plain}
use Rattle.sbpf_machine.specs.Steps.{State}
use Rattle.invoke_engine.specs.Frames.{Running}
use Rattle.invoke_engine.proofs.Turns.{plain_run}
use Rattle.invoke_engine.proofs.turn.run.Goals as goal

pub returns-clause-steps : goal.returns-clause-steps
returns-clause-steps g c = plain_run _ _ _ c.run_seen.result (ap plain c.deref_mut.ensures.value ∙ ap (λ (f : Running). f.machine) c.frame.view_is) c.run_seen.ensures.stops

pub invariant_of-frame : goal.invariant_of-frame
invariant_of-frame g c =
    c.run_seen.ensures.lent ∙ ap (λ (x : State). x.context.memory.input.lent) c.deref_mut.ensures.value ∙ c.frame.invariant

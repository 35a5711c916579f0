use Rattle.std.proofs.Common.{◌≡◌, ◌∙◌, length, ap, sym, Some}
use Rattle.std.proofs.lemmas.Result.{IfOk-weaker}
use Rattle.sbpf_machine.specs.Plain.{plain}
use Rattle.sbpf_machine.specs.Steps.{State}
use Rattle.sbpf_machine.specs.declared.stop.Stop.TheVariants.{Exit, Helper, Fault as Faulted}
use Rattle.invoke_engine.specs.declared.stopped.Stopped.TheVariants.{Refused}
use Rattle.invoke_engine.specs.Frames.{Running, Leaves}
use Rattle.invoke_engine.specs.Endings.{closes}
use Rattle.invoke_engine.specs.Suspended.{programs_of}
use Rattle.invoke_engine.specs.declared.stopped.Stopped.{Stopped}
use Rattle.std.proofs.Common.{Err}
use Rattle.invoke_engine.proofs.Turns.{Ran, ran_keeps, turn_at, turn_calls, turn_serves}
use Rattle.invoke_engine.proofs.turn.take_turn.Goals as goal

pub leave-requires-clause-frame : goal.leave-requires-clause-frame
leave-requires-clause-frame g c =
    let r : Ran c.args.frame.now c.run.new.frame (Exit c.in-Exit.r0) =
    record {
      steps = c.in_ok-r0.ensures.steps.0;
      rest = c.run.ensures.rest;
      stop =
          c.in_ok-r0.ensures.steps.1 ∙ ap Some c.in-Exit.is;
    } in
    ran_keeps (length c.args.context.now.keys) c.args.frame.now c.run.new.frame _ c.requires.frame r

pub call_turn-requires-clause-frame : goal.call_turn-requires-clause-frame
call_turn-requires-clause-frame g c =
    let r : Ran c.args.frame.now c.run.new.frame (Helper c.in-Helper.number) =
    record {
      steps = c.in_ok-r0.ensures.steps.0;
      rest = c.run.ensures.rest;
      stop =
          c.in_ok-r0.ensures.steps.1 ∙ ap Some c.in-Helper.is;
    } in
    ran_keeps (length c.args.context.now.keys) c.args.frame.now c.run.new.frame _ c.requires.frame r

pub returns-in_ok-leave-in-Exit : goal.returns-in_ok-leave-in-Exit
returns-in_ok-leave-in-Exit g c =
    let r : Ran c.args.frame.now c.run.new.frame (Exit c.in-Exit.r0) =
    record {
      steps = c.in_ok-r0.ensures.steps.0;
      rest = c.run.ensures.rest;
      stop =
          c.in_ok-r0.ensures.steps.1 ∙ ap Some c.in-Exit.is;
    } in
    turn_at c.args.context.now.setting c.args.context.now.keys (programs_of c.args.outer.now) c.args.frame.now c.run.new.frame c.args.carrier.now _ r ∙ ap Leaves (sym c.in_ok-leave-in-Exit.ensures)

pub returns-in_ok-fail-in-Fault : goal.returns-in_ok-fail-in-Fault
returns-in_ok-fail-in-Fault g c =
    let r : Ran c.args.frame.now c.run.new.frame (Faulted c.in-Fault.fault) =
    record {
      steps = c.in_ok-r0.ensures.steps.0;
      rest = c.run.ensures.rest;
      stop =
          c.in_ok-r0.ensures.steps.1 ∙ ap Some c.in-Fault.is;
    } in
    let machine : c.run.new.frame.machine ≡ plain c.deref.result.now = ap (λ (f : Running). f.machine) (sym c.frame.view_is) ∙ ap plain (sym c.deref.ensures) in
    let units : c.run.new.frame.machine.units ≡ c.units-units.result = ap (λ (m : State). m.units) machine ∙ sym c.units-units.ensures in
    turn_at c.args.context.now.setting c.args.context.now.keys (programs_of c.args.outer.now) c.args.frame.now c.run.new.frame c.args.carrier.now _ r ∙
    ap (λ (x : Stopped). Leaves (closes (programs_of c.args.outer.now) c.run.new.frame c.run.new.frame.machine.units c.args.carrier.now (Err x))) c.reason_of-reason.ensures ∙
    ap (λ n. Leaves (closes (programs_of c.args.outer.now) c.run.new.frame n c.args.carrier.now (Err (Refused c.reason_of-reason.result)))) units ∙
    ap Leaves (sym c.in_ok-fail-in-Fault.ensures)

pub returns-then-number-eq-INVOKE_CALL : goal.returns-then-number-eq-INVOKE_CALL
returns-then-number-eq-INVOKE_CALL g c =
    let r : Ran c.args.frame.now c.run.new.frame (Helper c.in-Helper.number) =
    record {
      steps = c.in_ok-r0.ensures.steps.0;
      rest = c.run.ensures.rest;
      stop =
          c.in_ok-r0.ensures.steps.1 ∙ ap Some c.in-Helper.is;
    } in
    IfOk-weaker c.call_turn.result _ _
    (λ t h. turn_calls c.args.context.now.setting c.args.context.now.keys (programs_of c.args.outer.now)
    c.args.frame.now c.run.new.frame c.args.carrier.now c.in-Helper.number r c.if-number-eq-INVOKE_CALL.true
    ∙ h) c.call_turn.ensures

pub returns-else-number-eq-INVOKE_CALL : goal.returns-else-number-eq-INVOKE_CALL
returns-else-number-eq-INVOKE_CALL g c =
    let r : Ran c.args.frame.now c.run.new.frame (Helper c.in-Helper.number) =
    record {
      steps = c.in_ok-r0.ensures.steps.0;
      rest = c.run.ensures.rest;
      stop =
          c.in_ok-r0.ensures.steps.1 ∙ ap Some c.in-Helper.is;
    } in
    IfOk-weaker c.serve_turn.result _ _
    (λ t h. turn_serves c.args.context.now.setting c.args.context.now.keys (programs_of c.args.outer.now)
    c.args.frame.now c.run.new.frame c.args.carrier.now c.in-Helper.number r
    c.if-number-eq-INVOKE_CALL.false ∙ h) c.serve_turn.ensures

use Rattle.std.proofs.Common.{◌∙◌, ap}
use Rattle.invoke_engine.specs.Invoked.{fixed_in}
use Rattle.invoke_engine.specs.Suspended.{programs_of}
use Rattle.invoke_engine.specs.Endings.{ending_as}
use Rattle.invoke_engine.specs.Starting.{next_as}
use Rattle.invoke_engine.specs.Turns.{turn_as}
use Rattle.invoke_engine.specs.declared.turn.Turn.{Turn as TurnValue}
use Rattle.invoke_engine.proofs.Loops.{all_ok, calls_at, leaves_at, working_last, working_on}
use Rattle.invoke_engine.proofs.run.advance.Goals as goal

pub loop-frame-smaller : goal.loop-frame-smaller
loop-frame-smaller g c = (working_on (fixed_in c.args.context.now) (programs_of c.loop-frame.stack) c.args.frame
    c.args.carrier.now c.loop-frame.frame c.loop-frame.carrier c.take_turn.new.frame c.take_turn.new.carrier
    c.loop-frame.invariant.works
    (c.in_ok-take_turn.ensures ∙ ap (λ (t : TurnValue). turn_as t c.take_turn.new.frame c.take_turn.new.carrier) c.in-GoesOn.is)).1

pub loop-frame-preserved : goal.loop-frame-preserved
loop-frame-preserved g c = record {
  same = c.loop-frame.invariant.same;
  works = (working_on (fixed_in c.args.context.now) (programs_of c.loop-frame.stack) c.args.frame
      c.args.carrier.now c.loop-frame.frame c.loop-frame.carrier c.take_turn.new.frame c.take_turn.new.carrier
      c.loop-frame.invariant.works
      (c.in_ok-take_turn.ensures ∙ ap (λ (t : TurnValue). turn_as t c.take_turn.new.frame c.take_turn.new.carrier) c.in-GoesOn.is)).0;
}

pub returns-in-Leaves : goal.returns-in-Leaves
returns-in-Leaves g c = leaves_at (fixed_in c.args.context.now) c.args.stack.now c.loop-frame.stack c.args.frame
    c.args.carrier.now c.loop-frame.frame c.loop-frame.carrier
    (ending_as c.in-Leaves.ending c.take_turn.new.carrier) c.loop-frame.invariant.same c.requires.stands
    c.loop-frame.invariant.works
    (c.in_ok-take_turn.ensures ∙ ap (λ (t : TurnValue). turn_as t c.take_turn.new.frame c.take_turn.new.carrier) c.in-Leaves.is)

pub begin_callee-requires-clause-fits : goal.begin_callee-requires-clause-fits
begin_callee-requires-clause-fits g c =
    (working_last (fixed_in c.args.context.now) (programs_of c.loop-frame.stack) c.args.frame c.args.carrier.now
    c.loop-frame.frame c.loop-frame.carrier _ c.loop-frame.invariant.works
    (c.in_ok-take_turn.ensures ∙ ap (λ (t : TurnValue). turn_as t c.take_turn.new.frame c.take_turn.new.carrier) c.in-Calls.is)).fits

pub returns-in-Calls : goal.returns-in-Calls
returns-in-Calls g c = all_ok c.begin_callee.result _ _ _ _ c.begin_callee.ensures.stack c.begin_callee.ensures.next c.begin_callee.ensures.fits (λ next pushed begins fits.
    calls_at (fixed_in c.args.context.now) c.args.stack.now c.loop-frame.stack c.begin_callee.new.stack
    c.args.frame c.args.carrier.now c.loop-frame.frame c.loop-frame.carrier c.take_turn.new.frame
    c.take_turn.new.carrier c.in-Calls.callee c.in-Calls.units (next_as next c.begin_callee.new.carrier)
    c.loop-frame.invariant.same c.requires.stands c.loop-frame.invariant.works
    (c.in_ok-take_turn.ensures ∙ ap (λ (t : TurnValue). turn_as t c.take_turn.new.frame c.take_turn.new.carrier) c.in-Calls.is) pushed begins fits)

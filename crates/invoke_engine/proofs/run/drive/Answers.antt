use Rattle.std.proofs.Common.{◌∙◌}
use Rattle.invoke_engine.specs.Invoked.{fixed_in}
use Rattle.invoke_engine.specs.FrameLoop.{Steps}
use Rattle.invoke_engine.specs.Starting.{next_as}
use Rattle.invoke_engine.proofs.Loops.{step_resumed, end_of_all}
use Rattle.invoke_engine.proofs.run.drive.Goals as goal

pub returns-in-None : goal.returns-in-None
returns-in-None g c = end_of_all (fixed_in c.args.context.now) c.loop-next.stack c.loop-next.next c.loop-next.carrier c.in-Done.ending _ c.in-None.ensures.none c.in-Done.is c.loop-next.invariant.same

pub loop-next-smaller : goal.loop-next-smaller
loop-next-smaller g c =
    let step : Steps (fixed_in c.args.context.now) c.loop-next.stack (next_as c.loop-next.next c.loop-next.carrier) c.pop.new.self (next_as c.in_ok-next-in-Some.next c.resume.new.carrier) =
    step_resumed (fixed_in c.args.context.now) c.loop-next.stack c.loop-next.next c.loop-next.carrier
    c.in-Some.frame c.pop.new.self c.in-Done.ending (next_as c.in_ok-next-in-Some.next c.resume.new.carrier)
    c.loop-next.invariant.stands c.in-Some.ensures.some c.in-Done.is c.in_ok-next-in-Some.ensures.next
    c.in_ok-next-in-Some.ensures.fits in
    step.falls

pub loop-next-preserved : goal.loop-next-preserved
loop-next-preserved g c =
    let step : Steps (fixed_in c.args.context.now) c.loop-next.stack (next_as c.loop-next.next c.loop-next.carrier) c.pop.new.self (next_as c.in_ok-next-in-Some.next c.resume.new.carrier) =
    step_resumed (fixed_in c.args.context.now) c.loop-next.stack c.loop-next.next c.loop-next.carrier
    c.in-Some.frame c.pop.new.self c.in-Done.ending (next_as c.in_ok-next-in-Some.next c.resume.new.carrier)
    c.loop-next.invariant.stands c.in-Some.ensures.some c.in-Done.is c.in_ok-next-in-Some.ensures.next
    c.in_ok-next-in-Some.ensures.fits in
    record { stands = step.stands; same = step.same ∙ c.loop-next.invariant.same }

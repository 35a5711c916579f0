use Rattle.std.proofs.Common.{[], ap, sym}
use Rattle.invoke_engine.specs.Invoked.{fixed_in}
use Rattle.invoke_engine.specs.Frames.{Carried}
use Rattle.invoke_engine.specs.Frame.{frame, nothing_returned}
use Rattle.invoke_engine.proofs.Loops.{carried_first, run_is}
use Rattle.invoke_engine.proofs.run.run_started.Goals as goal

pub returns : goal.returns
returns g c =
    run_is (frame (fixed_in c.args.context.now) [] c.args.invocation.call c.args.invocation.accounts
    c.args.invocation.units) c.ran_of.result _ (nothing_returned c.args.trace c.args.logs.now)
    c.run_frame-answer.new.carrier c.in_ok-answer.field-0 c.carrier.inside.env.logs
    c.in_ok-answer.ensures
    (carried_first c.args.trace c.new.result c.replace.result c.args.logs.now c.new.ensures c.replace.ensures.value)
    (ap (λ (x : Carried). x.log) (sym c.carrier.view_is))
    (c.ran_of.ensures c.run_frame-answer.new.carrier (ap (λ (x : Carried). x.trace) (sym c.carrier.view_is)) (ap (λ (x : Carried). x.stopped_at) (sym c.carrier.view_is)))

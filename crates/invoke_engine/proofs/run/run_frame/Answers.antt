use Rattle.std.proofs.Common.{◌∙◌}
use Rattle.std.proofs.lemmas.Result.{IfOk-weaker}
use Rattle.invoke_engine.specs.Invoked.{fixed_in}
use Rattle.invoke_engine.specs.Starting.{next_as}
use Rattle.invoke_engine.proofs.Loops.{first_stands, first_ending}
use Rattle.invoke_engine.proofs.run.run_frame.Goals as goal

pub drive-requires-clause-stands : goal.drive-requires-clause-stands
drive-requires-clause-stands g c = first_stands (fixed_in c.args.context.now) c.new-stack.result
    c.args.invocation.call c.args.invocation.accounts c.args.invocation.units c.args.carrier.now
    (next_as c.in_ok-first.first c.begin_watched.new.carrier)
    c.new-stack.ensures c.requires.height.0 c.requires.call.range c.requires.accounts c.in_ok-first.ensures.next c.in_ok-first.ensures.fits

pub returns : goal.returns
returns g c = IfOk-weaker c.drive.result _ _
    (λ e h. h ∙ first_ending (fixed_in c.args.context.now) c.new-stack.result c.args.invocation.call
    c.args.invocation.accounts c.args.invocation.units c.args.carrier.now
    (next_as c.in_ok-first.first c.begin_watched.new.carrier) c.new-stack.ensures c.in_ok-first.ensures.next)
    c.drive.ensures

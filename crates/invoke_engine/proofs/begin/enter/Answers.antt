use Rattle.std.proofs.Common.{◌≡◌, ◌∙◌, ◌≤◌, length, ap, subst, sym, arith, false}
use Rattle.sol_base.specs.declared.key.Key.{Key}
use Rattle.invoke_engine.specs.Starting.{first_running}
use Rattle.program_cache.specs.Programs.{IsReady, found_as, sought}
use Rattle.abi_input.specs.Region.{max_metas}
use Rattle.invoke_engine.specs.Invoked.{Invoked, Known, fixed_in}
use Rattle.invoke_engine.specs.Frames.{Running, Runs}
use Rattle.invoke_engine.specs.Native.{is_native}
use Rattle.invoke_engine.specs.Suspended.{programs_of}
use Rattle.invoke_engine.proofs.Begins.{entering_ready}
use Rattle.invoke_engine.proofs.begin.enter.Goals as goal

pub returns-in-Ready-clause-next : goal.returns-in-Ready-clause-next
returns-in-Ready-clause-next c =
    let few : length c.args.invocation.call.metas ≤ max_metas = omega (arith, ap (λ (i : Invoked). length i.call.metas) c.invocation.view_is) in
    let other : is_native c.args.program.now ≡ false = cc (c.is_native.ensures, c.if-is_native.false) in
    let found : sought c.args.context.now.programs c.args.program.now
    ≡ IsReady c.in-Ready.image.now = cc
    (sym c.find.ensures ∙ ap found_as c.in-Ready.is, ap (λ (k : Known). k.programs) c.context.view_is) in
    let frame = subst (λ (key : Key). c.in_ok-frame-in-Ready.frame
    ≡ first_running c.args.context.now.setting c.args.context.now.keys key c.in-Ready.image.now
    c.args.invocation.call c.args.invocation.accounts c.args.invocation.units) c.key-key.ensures
    c.in_ok-frame-in-Ready.ensures.value in
    entering_ready (fixed_in c.args.context.now) (programs_of c.args.outer.now) c.args.program.now
    c.args.invocation.call c.args.invocation.accounts c.args.invocation.units c.args.carrier.now
    c.in-Ready.image.now few other found ∙
    ap (λ (f : Running). Runs f c.args.carrier.now) (sym frame)

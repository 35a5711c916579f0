use Rattle.std.proofs.Common.{arith}
use Rattle.batch_gen.proofs.Drawing.{none_drawn, one_more, count_drawn, drawn_are_short}
use Rattle.batch_gen.proofs.made.draw_wires.Goals as goal

pub loop-t-init : goal.loop-t-init
loop-t-init c = rw c.in_ok-wires.ensures (none_drawn c.args.number)

pub loop-t-preserved : goal.loop-t-preserved
loop-t-preserved c =
    rw c.in_ok-draw_wire.ensures.state
    (one_more c.args.number c.loop-t.t c.loop-t.draws.state c.loop-t.wires c.push.new.self
    c.in_ok-draw_wire.field-0 c.loop-t.invariant c.in_ok-draw_wire.ensures.wire c.in_ok-push.ensures.ok)

pub returns-clause-few : goal.returns-clause-few
returns-clause-few c =
    let count = count_drawn c.args.number c.loop-t.t c.loop-t.draws.state c.loop-t.wires c.loop-t.invariant in
    omega (arith, count)

pub returns-clause-short : goal.returns-clause-short
returns-clause-short c = drawn_are_short c.args.number c.loop-t.t c.loop-t.draws.state c.loop-t.wires c.loop-t.invariant

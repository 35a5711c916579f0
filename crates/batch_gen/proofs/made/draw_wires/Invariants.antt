use Rattle.batch_gen.proofs.Drawing.{AreDrawn}
use Rattle.batch_gen.proofs.made.draw_wires.Given as goal

-- the transactions so far
abbrev pub invariant-loop-t : goal.invariant-loop-t
invariant-loop-t l = AreDrawn l.number l.t l.draws.state l.wires

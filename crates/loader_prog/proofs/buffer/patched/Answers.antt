use Rattle.std.proofs.Common.{arith}
use Rattle.loader_prog.proofs.Patches.{patch-same}
use Rattle.loader_prog.proofs.buffer.patched.Goals as goal

pub returns-then-eq : goal.returns-then-eq
returns-then-eq c = patch-same c.args.bytes.now c.args.piece.now c.args.at _ _ (omega arith) c.eq.ensures c.if-eq.true

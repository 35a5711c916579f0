use Rattle.std.proofs.KnownBytes.{Consumes-trans}
use Rattle.sol_io.proofs.whole.read_all.Goals as goal

pub returns-then-n-limit-clause-taken : goal.returns-then-n-limit-clause-taken
returns-then-n-limit-clause-taken g c = (_, Consumes-trans _ _ _ _ _ c.loop-bytes.invariant.taken c.in_ok-n.ensures.bytes)

pub returns-in_err-append-clause-taken : goal.returns-in_err-append-clause-taken
returns-in_err-append-clause-taken g c = (_, Consumes-trans _ _ _ _ _ c.loop-bytes.invariant.taken c.in_ok-n.ensures.bytes)

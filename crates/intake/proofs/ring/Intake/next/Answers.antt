use Rattle.intake.proofs.Moves.{pops, stands}
use Rattle.intake.proofs.ring.Intake.next.Goals as goal

pub pop_as-requires-clause-rule : goal.pop_as-requires-clause-rule
pop_as-requires-clause-rule g c = (pops _ _ c.args.seat.now.takes, stands _ _)

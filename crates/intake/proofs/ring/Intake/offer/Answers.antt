use Rattle.intake.proofs.Moves.{pushes, stands}
use Rattle.intake.proofs.ring.Intake.offer.Goals as goal

pub push_as-requires-clause-rule : goal.push_as-requires-clause-rule
push_as-requires-clause-rule g c = (pushes _ _ _ _ c.args.seat.now.sender_is c.args.seat.now.place_is, stands _ _)

use Rattle.bank_shared.proofs.UnderTurn.{still_has}
use Rattle.bank_shared.proofs.desk.SharedDesk.end_turn.Goals as goal

pub release-requires-clause-turn : goal.release-requires-clause-turn
release-requires-clause-turn g c = still_has _ _ _ c.args.turn.no_parts c.args.turn.events

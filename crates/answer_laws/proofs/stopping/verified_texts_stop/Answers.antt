use Rattle.answer_laws.proofs.Stops.{machines_stop, verified_texts_stop}
use Rattle.answer_laws.proofs.stopping.verified_texts_stop.Goals as goal

pub returns-clause-started : goal.returns-clause-started
returns-clause-started c = verified_texts_stop

pub returns-clause-going : goal.returns-clause-going
returns-clause-going c = machines_stop

use Rattle.bank_law.proofs.Histories.{own_grows, own_stays, holds_last}
use Rattle.bank_law.proofs.laws.events_belong_to_their_lanes.Goals as goal

pub returns-clause-own : goal.returns-clause-own
returns-clause-own c = own_grows

pub returns-clause-others : goal.returns-clause-others
returns-clause-others c = own_stays

pub returns-clause-holds : goal.returns-clause-holds
returns-clause-holds c = holds_last

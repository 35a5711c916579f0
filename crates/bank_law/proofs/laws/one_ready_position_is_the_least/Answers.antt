use Rattle.bank_law.proofs.Ready.{one_least, least_one}
use Rattle.bank_law.proofs.laws.one_ready_position_is_the_least.Goals as goal

pub returns-clause-some : goal.returns-clause-some
returns-clause-some c = one_least

pub returns-clause-one : goal.returns-clause-one
returns-clause-one c = least_one

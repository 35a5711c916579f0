use Rattle.system_prog.proofs.Keeping.{system_keeps, system_foreign}
use Rattle.system_prog.proofs.laws.good_calls_keep_the_accounts.Goals as goal

pub returns-clause-kept : goal.returns-clause-kept
returns-clause-kept c = system_keeps

pub returns-clause-foreign : goal.returns-clause-foreign
returns-clause-foreign c = system_foreign

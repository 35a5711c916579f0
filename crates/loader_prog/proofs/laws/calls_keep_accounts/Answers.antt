use Rattle.loader_prog.proofs.Keeping.{loader_keeps, loader_foreign}
use Rattle.loader_prog.proofs.laws.calls_keep_accounts.Goals as goal

pub returns-clause-kept : goal.returns-clause-kept
returns-clause-kept c = loader_keeps

pub returns-clause-foreign : goal.returns-clause-foreign
returns-clause-foreign c = loader_foreign

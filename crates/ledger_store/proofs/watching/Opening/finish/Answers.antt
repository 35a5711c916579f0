use Rattle.std.proofs.Common.{sym}
use Rattle.ledger_store.proofs.Beside.{never_failed}
use Rattle.ledger_store.proofs.watching.Opening.finish.Goals as goal

pub returns-in-Some-clause-quiet : goal.returns-in-Some-clause-quiet
returns-in-Some-clause-quiet g c = never_failed c.args.self.files c.in-Some.fault (sym c.in-Some.ensures)

use Rattle.std.proofs.Common.{refl}
use Rattle.ledger_tables.proofs.inserts.run.Goals as goal

pub returns-clause-ran : goal.returns-clause-ran
returns-clause-ran g c clean = (c.execute.new.self, (c.in_ok-_rows._rows, c.in_ok-_rows.ensures.runs clean), refl)

use Rattle.ledger_store.proofs.JustReads.{reads_file}
use Rattle.ledger_store.proofs.place.read_file.Goals as goal

pub returns-in-Some-clause-reads : goal.returns-in-Some-clause-reads
returns-in-Some-clause-reads g c = reads_file (g.F.Folder.events c.args.folder.now) (g.F.Folder.events c.read.new.self) c.args.name c.in_ok-bytes.field-0 c.in_ok-bytes.ensures.noted

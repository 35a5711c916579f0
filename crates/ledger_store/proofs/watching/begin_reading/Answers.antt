use Rattle.ledger_store.proofs.JustReads.{reads_then}
use Rattle.ledger_store.proofs.watching.begin_reading.Goals as goal

pub returns-clause-reads : goal.returns-clause-reads
returns-clause-reads g c = reads_then (g.F.Folder.events c.args.folder.now) (g.F.Folder.events c.read_file.new.folder) (g.F.Folder.events c.begin_files.new.folder) c.in_ok-bytes.ensures.reads c.in_ok-ahead.ensures.reads

use Rattle.ledger_folder.specs.declared.name.Name.TheVariants.{Changes}
use Rattle.ledger_store.proofs.JustReads.{reads_file}
use Rattle.ledger_store.proofs.ahead.begin_file.Goals as goal

pub returns-in_ok-begin-in-Some-clause-reads : goal.returns-in_ok-begin-in-Some-clause-reads
returns-in_ok-begin-in-Some-clause-reads g c = reads_file (g.F.Folder.events c.args.folder.now) (g.F.Folder.events c.read.new.self) (Changes c.args.slot) c.in_ok-bytes.field-0 c.in_ok-bytes.ensures.noted

pub returns-in-None-clause-reads : goal.returns-in-None-clause-reads
returns-in-None-clause-reads g c = reads_file (g.F.Folder.events c.args.folder.now) (g.F.Folder.events c.read.new.self) (Changes c.args.slot) c.in_ok-bytes.field-0 c.in_ok-bytes.ensures.noted

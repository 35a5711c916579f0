use Rattle.std.proofs.Common.{sym, ◌∙◌}
use Rattle.ledger_folder.specs.declared.name.Name.TheVariants.{Chain}
use Rattle.std.proofs.lemmas.Bool.{false≢true}
use Rattle.ledger_store.proofs.Begun.{reads_both, some_listed}
use Rattle.ledger_store.proofs.JustReads.{reads_file}
use Rattle.ledger_store.proofs.adding.is_vacant.Goals as goal

pub returns-then-is_some-clause-reads : goal.returns-then-is_some-clause-reads
returns-then-is_some-clause-reads g c = reads_file (g.F.Folder.events c.args.folder.now) (g.F.Folder.events c.read.new.self) Chain c.in_ok-found.found c.in_ok-found.ensures.noted

pub returns-in_err-slots-clause-reads : goal.returns-in_err-slots-clause-reads
returns-in_err-slots-clause-reads g c = reads_file (g.F.Folder.events c.args.folder.now)
    (g.F.Folder.events c.blocks-2.new.self) Chain c.in_ok-found.found
    (c.in_err-slots.ensures.noted ∙ c.in_ok-found.ensures.noted)

pub returns-clause-reads : goal.returns-clause-reads
returns-clause-reads g c =
    reads_both (g.F.Folder.events c.args.folder.now) (g.F.Folder.events c.read.new.self)
    (g.F.Folder.events c.blocks-2.new.self) c.in_ok-found.found c.in_ok-slots.slots
    c.in_ok-found.ensures.noted c.in_ok-slots.ensures.noted

pub returns-clause-taken : goal.returns-clause-taken
returns-clause-taken g c other =
    some_listed (g.F.Folder.events c.read.new.self) (g.F.Folder.events c.blocks-2.new.self) c.in_ok-slots.slots c.in_ok-slots.ensures.noted (λ none. false≢true (sym other ∙ c.is_empty.ensures.1 none))

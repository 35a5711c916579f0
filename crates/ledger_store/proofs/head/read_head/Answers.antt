use Rattle.std.proofs.Common.{◌∙◌, ap, sym}
use Rattle.ledger_store.specs.Heads.{head_from}
use Rattle.ledger_store.proofs.Telling.{tells_head}
use Rattle.ledger_store.proofs.JustReads.{reads_slots, reads_then}
use Rattle.ledger_store.proofs.head.read_head.Goals as goal

pub returns-clause-tells : goal.returns-clause-tells
returns-clause-tells g c =
    tells_head (g.F.Folder.events c.args.folder.now) (g.F.Folder.events c.read_file.new.folder)
    (g.F.Folder.events c.blocks-2.new.self) c.in_ok-bytes.bytes (c.in_ok-every.every, c.in_ok-every.start)
    c.in_ok-slots.slots c.in_ok-bytes.ensures.tells
    (ap head_from (sym c.as_slice.ensures) ∙ c.in_ok-every.ensures.gives) c.in_ok-slots.ensures.noted

pub returns-clause-reads : goal.returns-clause-reads
returns-clause-reads g c =
    reads_then (g.F.Folder.events c.args.folder.now) (g.F.Folder.events c.read_file.new.folder) (g.F.Folder.events c.blocks-2.new.self) c.in_ok-bytes.ensures.reads
    (reads_slots (g.F.Folder.events c.read_file.new.folder) (g.F.Folder.events c.blocks-2.new.self) c.in_ok-slots.slots c.in_ok-slots.ensures.noted)

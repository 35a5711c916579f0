use Rattle.std.proofs.Common.{◌≡◌, drop}
use Rattle.snapshot_codec.specs.Snapshot.{HasWidths, IsReadable}
use Rattle.ledger_folder.specs.Files.{Disk}
use Rattle.ledger_folder.specs.Crash.{Shows}
use Rattle.ledger_store.specs.Opening.{walked}
use Rattle.ledger_store.proofs.opening.walk.Given as goal

-- what is still to be walked gives the same
abbrev pub invariant-loop-slot : goal.invariant-loop-slot
invariant-loop-slot g l = record {
  readable : IsReadable l.newest;
  widths : HasWidths l.fn.before → HasWidths l.newest;
  told : (disk : Disk) → Shows (g.F.Folder.events l.folder) disk → Shows (g.F.Folder.events l.fn.folder) disk × (walked disk l.slots l.fn.before ≡ walked disk (drop l.slot-index l.slots) l.newest);
  stands : g.F.Folder.faults l.folder ≡ g.F.Folder.faults l.fn.folder;
}

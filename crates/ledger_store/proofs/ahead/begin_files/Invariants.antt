use Rattle.std.proofs.Common.{◌≡◌, ◌++◌, drop, map}
use Rattle.ledger_folder.specs.Files.{Disk}
use Rattle.ledger_folder.specs.Crash.{Shows}
use Rattle.ledger_store.specs.Adding.{OnlyReads}
use Rattle.ledger_store.specs.Ahead.{files_of, seen}
use Rattle.ledger_store.proofs.ahead.begin_files.Given as goal

-- the files so far, and those that are still to be read
abbrev pub invariant-loop-slot : goal.invariant-loop-slot
invariant-loop-slot g l = record {
  told : (disk : Disk) → Shows (g.F.Folder.events l.folder) disk
      → Shows (g.F.Folder.events l.fn.folder) disk × (map seen l.files ++ files_of disk (drop l.slot-index l.slots) ≡ files_of disk l.slots);
  reads : OnlyReads (g.F.Folder.events l.fn.folder) (g.F.Folder.events l.folder);
  stands : g.F.Folder.faults l.folder ≡ g.F.Folder.faults l.fn.folder;
}

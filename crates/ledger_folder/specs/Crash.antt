-- What a crash may leave of the files of a folder. Each file stands by itself: a move that no sync
-- of the folder follows has happened or not, and a file whose bytes were not synced before it was
-- moved may hold anything. The newest event is first.
use Rattle.std.specs.Prelude.{◌≡◌, List, [], ◌∷◌, ◌++◌, ◌⊎◌, ℕ, Option, Some, if◌then◌else◌}
use Rattle.ledger_folder.specs.declared.name.Name.{Name}
use Rattle.ledger_folder.specs.declared.event.Event.{Event}
use Rattle.ledger_folder.specs.declared.event.Event.TheVariants.{Renamed, RenameFailed, FolderSynced}
use Rattle.ledger_folder.specs.Names.{same_name}
use Rattle.ledger_folder.specs.Files.{Disk, Known, Allows, moved, placed, IsHonest}

-- all that NAME may hold after a crash
abbrev pub left : Disk → List Event → Name → List Known
left start [] n = Some (start n) ∷ []
left start (Renamed m ∷ events) n =
    if same_name m n then moved events n ∷ left start events n else left start events n
left start (RenameFailed m ∷ events) n =
    if same_name m n then moved events n ∷ left start events n else left start events n
left start (FolderSynced ∷ events) n = placed start events n ∷ []
left start (_ ∷ events) n = left start events n

-- it holds one of these
abbrev pub Fits : List Known → Option (List ℕ) → Type 0
Fits [] found = ⊥
Fits (known ∷ others) found = Allows known found ⊎ Fits others found

-- a crash after these events may leave this
abbrev pub CrashLeaves : Disk → List Event → Disk → Type 0
CrashLeaves start events disk = (n : Name) → Fits (left start events n) (disk n)

-- the folder holds these files, and a crash leaves them as they are
pub record Stands (start : Disk) (events : List Event) (disk : Disk) : Type 0 where
  pub holds : (n : Name) → placed start events n ≡ Some (disk n)
  pub lasts : (n : Name) → left start events n ≡ Some (disk n) ∷ []

-- Where the folder was opened over some files and what it read is what stood there, it holds these,
-- and a crash leaves them as they are.
pub record Shows (events : List Event) (disk : Disk) : Type 0 where
  pub start : Disk
  pub honest : IsHonest start events
  pub stands : Stands start events disk

-- A crash at any moment of a call leaves files that have P: whatever part of what was done since the
-- call began was done before the crash. `later` was not.
abbrev pub LeavesOnly : List Event → List Event → (Disk → Disk → Type 0) → Type 0
LeavesOnly old new P =
    (disk : Disk) (shows : Shows old disk) (later since : List Event) → new ≡ later ++ since ++ old
    → (crashed : Disk) → CrashLeaves shows.start (since ++ old) crashed → P disk crashed

-- What a call did lasts: each crash after it leaves files that have P.
abbrev pub Lasts : List Event → List Event → (Disk → Disk → Type 0) → Type 0
Lasts old new P =
    (disk : Disk) (shows : Shows old disk) (crashed : Disk)
    → CrashLeaves shows.start new crashed → P disk crashed

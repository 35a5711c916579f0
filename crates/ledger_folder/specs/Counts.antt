-- What an answer of a folder says of its count of failures.
use Rattle.std.specs.Prelude.{◌≡◌, ℕ, List, Option, Result, Ok, Err}
use Rattle.ledger_folder.specs.declared.event.Event.{Event}
use Rattle.ledger_folder.specs.declared.failure.Failure.{Failure}
use Rattle.ledger_folder.specs.declared.folder.FolderFault.{FolderFault}
use Rattle.ledger_folder.specs.declared.folder.FolderFault.TheVariants.{Failed, OutOfMemory}
pub use Rattle.spec_base.specs.Faults.{Rose}

-- what a refusal says of it
abbrev pub FaultCounts : FolderFault → ℕ → ℕ → Type 0
FaultCounts Failed old new = Rose old new
FaultCounts OutOfMemory old new = new ≡ old

-- a failure is a counted one; after every other answer the count stands
abbrev pub FolderCounts : {A : Type 0} → Result A FolderFault → ℕ → ℕ → Type 0
FolderCounts (Ok _) old new = new ≡ old
FolderCounts (Err fault) old new = FaultCounts fault old new

-- a folder as clauses see it: what it did, the newest first, and how often it failed
pub record FolderView : Type 0 where
  pub events : List Event
  pub faults : ℕ

-- one of the system's files too: the call that failed last
pub record StdFolderView : Type 0 where
  pub events : List Event
  pub faults : ℕ
  pub failure : Option Failure

-- What is read from the files of a folder, where it answers honestly.
use Rattle.std.specs.Prelude.{◌≡◌, ℕ, List, Result, Ok}
use Rattle.spec_base.specs.Reading.{◌>>=◌, Gives}
use Rattle.snapshot_codec.specs.Snapshot.{HasWidths}
use Rattle.ledger_folder.specs.declared.event.Event.{Event}
use Rattle.ledger_folder.specs.declared.name.Name.TheVariants.{Chain}
use Rattle.ledger_folder.specs.Files.{Disk, Lists}
use Rattle.ledger_folder.specs.Crash.{Shows}
use Rattle.ledger_store.specs.declared.head.Head.{Head}
use Rattle.ledger_store.specs.declared.opening.Ledger.{Ledger}
use Rattle.ledger_store.specs.declared.fault.LedgerFault.{LedgerFault}
use Rattle.ledger_store.specs.Faults.{is_free}
use Rattle.ledger_store.specs.Heads.{head_in}
use Rattle.ledger_store.specs.Opening.{head_with, opened}

-- Where the folder shows these files after a call, it did so before, and the answer is what they
-- say; a failure of the folder and out of memory they do not show.
abbrev pub Tells : {X : Type 0} → List Event → List Event → Result X LedgerFault
    → (Disk → Result X LedgerFault) → Type 0
Tells old new result answer =
    (disk : Disk) → Shows new disk → Shows old disk × Gives is_free (λ x. x) result (answer disk)

-- Where the folder shows these files after a call, it did so before, and the answer is what they and the
-- slots that have a block say; a failure of the folder and out of memory they do not show.
abbrev pub TellsListed : {X : Type 0} → List Event → List Event → Result X LedgerFault
    → (Disk → List ℕ → Result X LedgerFault) → Type 0
TellsListed old new result answer =
    (disk : Disk) → Shows new disk
    → Shows old disk × ((slots : List ℕ) → Lists disk slots
    → Gives is_free (λ x. x) result (answer disk slots))

-- what a chain is by its names
abbrev pub heading : Disk → List ℕ → Result Head LedgerFault
heading disk slots = do
  fields ← head_in (disk Chain)
  Ok (head_with fields slots)

-- the chain is what opening these files gives
pub record Opens (disk : Disk) (ledger : Ledger) : Type 0 where
  pub listed : Lists disk ledger.head.slots
  pub same : opened disk ledger.head.slots ≡ Ok ledger

-- the chain is what opening the folder's files gives, and the parts of its newest state have the
-- widths of their types
pub record IsOpen (events : List Event) (ledger : Ledger) : Type 0 where
  pub opens : (disk : Disk) → Shows events disk → Opens disk ledger
  pub widths : HasWidths ledger.newest

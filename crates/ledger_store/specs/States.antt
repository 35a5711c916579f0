-- Files of full states: a snapshot of the second version (the project's own).
use Rattle.std.specs.Prelude.{ℕ, ◌==◌, List, length, Option, if◌then◌else◌, Result, Ok, Err}
use Rattle.spec_base.specs.Reading.{◌>>=◌}
use Rattle.snapshot_codec.specs.declared.snapshot.Snapshot.{Snapshot}
use Rattle.snapshot_codec.specs.declared.snapshot.Prefix.{Prefix}
use Rattle.snapshot_codec.specs.SnapshotReading.{prefix_of}
use Rattle.ledger_folder.specs.declared.name.Name.{Name}
use Rattle.ledger_folder.specs.declared.name.Name.TheVariants.{State}
use Rattle.ledger_store.specs.declared.fault.LedgerFault.{LedgerFault}
use Rattle.ledger_store.specs.declared.fault.LedgerFault.TheVariants.{Missing, Damaged}
use Rattle.ledger_store.specs.Faults.{snapshot_fault, found_or, or_fault}
use Rattle.ledger_store.specs.Seal.{body_of}

-- the snapshot that a file's body begins with
unfoldable pub front_in : Name → List ℕ → Result Prefix LedgerFault
front_in name body = or_fault (snapshot_fault name) (prefix_of body)

-- the place of the slot in a snapshot, and in a record
abbrev pub slot_place : ℕ
slot_place = 8

-- the file is that of its slot
abbrev pub ok_at_slot : {X : Type 0} → Name → ℕ → ℕ → X → Result X LedgerFault
ok_at_slot name slot told x = if told == slot then Ok x else Err (Damaged name slot_place)

-- a snapshot and nothing behind it
unfoldable pub whole_state : ℕ → List ℕ → Result Snapshot LedgerFault
whole_state slot body = do
  prefix ← front_in (State slot) body
  snapshot ← ok_at_slot (State slot) slot prefix.snapshot.slot prefix.snapshot
  if prefix.length == length body then Ok snapshot else Err (Damaged (State slot) prefix.length)

-- the file
unfoldable pub state_from : ℕ → List ℕ → Result Snapshot LedgerFault
state_from slot file = do
  body ← body_of (State slot) file
  whole_state slot body

abbrev pub state_in : ℕ → Option (List ℕ) → Result Snapshot LedgerFault
state_in slot found = found_or (Missing (State slot)) found >>= state_from slot

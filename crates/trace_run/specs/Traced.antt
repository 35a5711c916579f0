-- What the trace of a batch says of its transactions (the project's own).
use Rattle.std.specs.Prelude.{◌≡◌, ℕ, ◌+◌, List, All, slice_get, Some, None}
use Rattle.tx_report.specs.declared.status.Status.{Status}
use Rattle.tx_report.specs.declared.outcome.Outcome.{Outcome}
use Rattle.snapshot_codec.specs.declared.snapshot.Snapshot.{Snapshot}
use Rattle.snapshot_codec.specs.declared.batch.Batch.{Batch}
use Rattle.block_record.specs.declared.block.Block.{Block}
use Rattle.block_record.specs.declared.block.Entry.{Entry}
use Rattle.admission.specs.declared.chosen.Admitted.{Admitted}
use Rattle.admission.specs.Admission.{admitted}
use Rattle.account_store.specs.State.{at}
use Rattle.tx_exec.specs.AdmittedBlock.{job_of}
use Rattle.block_run.specs.declared.watching.Seen.{Seen}
use Rattle.block_run.specs.Blocks.{block_result, start_in}
use Rattle.block_run.specs.SerialRun.{told_in}
use Rattle.block_run.specs.Watching.{IsSerial}
use Rattle.trace_run.specs.Sought.{wanted_in}
use Rattle.trace_run.specs.declared.run.Sought.{Sought}
use Rattle.trace_run.specs.declared.run.Traced.{Traced}
use Rattle.trace_run.specs.declared.run.Traced.TheVariants.{Ran, Refused as NotRun, Absent}

-- what a record says that a transaction came to
pub record Told : Type 0 where
  pub status : Status
  pub units : ℕ
  pub fee : ℕ
  pub lines : List (List ℕ)

abbrev pub told_in_entry : Entry → Told
told_in_entry entry = record {
  status = entry.status;
  units = entry.units;
  fee = entry.fee;
  lines = entry.lines;
}

abbrev pub told_by_outcome : Outcome → Told
told_by_outcome outcome = record {
  status = outcome.status;
  units = outcome.units;
  fee = outcome.base_paid + outcome.priority_paid;
  lines = outcome.lines;
}

-- a transaction that was seen came to what the entry of its position says in the record of the block
abbrev pub IsRecorded : Block → Seen → Type 0
IsRecorded block seen = (entry : Entry) → slice_get block.entries seen.position ≡ Some entry
    → told_in_entry entry ≡ told_by_outcome seen.outcome

-- a transaction that was seen came to what it comes to in the serial run of those that are admitted
abbrev pub IsSerialIn : Snapshot → ℕ → Admitted → Seen → Type 0
IsSerialIn s slot a seen = IsSerial (job_of (told_in s slot a.order)) (at s.accounts) seen

-- of what is admitted: those that were seen came to what they come to in the serial run, and the
-- others are those that are refused; or the transaction that is sought is not admitted
abbrev pub IsTracedOf : Snapshot → ℕ → Admitted → Sought → Traced → Type 0
IsTracedOf s slot a sought (Ran watched refused) =
    (refused ≡ a.refused) × All (IsSerialIn s slot a) watched.seen
IsTracedOf s slot a sought (NotRun one) = wanted_in a.order sought ≡ None
IsTracedOf s slot a sought Absent = wanted_in a.order sought ≡ None

-- of a batch: those that were seen came to what the record of its block says, and the others are
-- those that the block refuses; or the transaction that is sought is not admitted
abbrev pub IsTraced : Snapshot → Batch → Sought → Traced → Type 0
IsTraced s batch sought (Ran watched refused) =
    (refused ≡ (block_result s batch).refused)
    × All (IsRecorded (block_result s batch).block) watched.seen
IsTraced s batch sought (NotRun one) =
    wanted_in (admitted (start_in s) batch.wires).order sought ≡ None
IsTraced s batch sought Absent = wanted_in (admitted (start_in s) batch.wires).order sought ≡ None

use Rattle.std.proofs.Common.{◌≡◌, ◌+◌, ◌-◌, ◌*◌, length, All}
use Rattle.account_store.specs.State.{at}
use Rattle.tx_exec.specs.AdmittedBlock.{job_of}
use Rattle.block_lanes.proofs.Turns.{IsAlone}
use Rattle.block_run.specs.Watching.{IsSerial}
use Rattle.block_run.proofs.watching.see_in_turn.Given as goal

-- the lane holds nothing, has given nothing back, and what was seen is as in the serial run
abbrev pub invariant-turns : goal.invariant-turns
invariant-turns g l = record {
  origin : l.core.origin.value ≡ l.initial.core.origin.value;
  one : l.core.lanes ≡ 1;
  alone : IsAlone l.core.journal.items;
  serial : All (IsSerial (job_of l.work.told) (at l.initial.core.origin.value.start)) l.seen;
}

-- a position takes two events
abbrev pub decreases-turns : goal.decreases-turns
decreases-turns g l = 2 * (job_of l.core.origin.value.told).count + 1 - length l.core.journal.items

-- What an answer says of the device's count of faults, and of what was written.
use Rattle.std.specs.Prelude.{◌≡◌, ℕ, ◌+◌, ◌-◌, ◌^◌, min, Result, Ok, Err}
use Rattle.sol_io.specs.declared.fault.SinkFault.{SinkFault}
use Rattle.sol_io.specs.declared.fault.SinkFault.TheVariants as sink
use Rattle.sol_io.specs.declared.fault.ReadFault.{ReadFault}
use Rattle.sol_io.specs.declared.fault.ReadFault.TheVariants as read
use Rattle.sol_io.specs.declared.fault.WriteFault.{WriteFault}
use Rattle.sol_io.specs.declared.fault.WriteFault.TheVariants as write
pub use Rattle.spec_base.specs.Faults.{Rose, CountsFailures}

-- one more, in a count that stands still at its last value
abbrev pub next_count : ℕ → ℕ
next_count n = min (n + 1) (2 ^ 64 - 1)

-- a failure is counted once, and nothing else is
abbrev pub CountsOnce : {A E : Type 0} → Result A E → ℕ → ℕ → Type 0
CountsOnce (Ok _) old new = new ≡ old
CountsOnce (Err _) old new = new ≡ next_count old

-- of a write
abbrev pub SinkCounts : {A : Type 0} → Result A SinkFault → ℕ → ℕ → Type 0
SinkCounts (Ok _) old new = new ≡ old
SinkCounts (Err sink.Failed) old new = Rose old new
SinkCounts (Err sink.OutOfMemory) old new = new ≡ old

-- of reading to the end
abbrev pub ReadCounts : {A : Type 0} → Result A ReadFault → ℕ → ℕ → Type 0
ReadCounts (Ok _) old new = new ≡ old
ReadCounts (Err read.Failed) old new = Rose old new
ReadCounts (Err read.TooLong) old new = new ≡ old
ReadCounts (Err read.OutOfMemory) old new = new ≡ old

-- of writing whole
abbrev pub WriteCounts : {A : Type 0} → Result A WriteFault → ℕ → ℕ → Type 0
WriteCounts (Ok _) old new = new ≡ old
WriteCounts (Err (write.Failed _)) old new = Rose old new
WriteCounts (Err (write.OutOfMemory _)) old new = new ≡ old

-- how many bytes were written before the fault
abbrev pub written_of : WriteFault → ℕ
written_of (write.Failed written) = written
written_of (write.OutOfMemory written) = written

-- The devices in memory: what each holds, and what one call does to it.
use Rattle.std.specs.Prelude.{◌≡◌, ℕ, min, List, ◌++◌, drop, length, Contains, Result, Ok, Err}
use Rattle.sol_io.specs.declared.fault.Failed.{Failed}
use Rattle.sol_io.specs.declared.fault.SinkFault.{SinkFault}
use Rattle.sol_io.specs.declared.fault.SinkFault.TheVariants as sink
use Rattle.sol_io.specs.Counts.{next_count}

pub record SourceState : Type 0 where
  pub rest : List ℕ
  pub failing : List ℕ
  pub calls : ℕ
  pub faults : ℕ

pub record SinkState : Type 0 where
  pub held : List ℕ
  pub failing : List ℕ
  pub calls : ℕ
  pub faults : ℕ

-- A read fails exactly where its number is listed. Else it moves as many bytes as there is room
-- for.
abbrev pub ReadsMemory : SourceState → SourceState → ℕ → Result ℕ Failed → Type 0
ReadsMemory old new room (Ok n) =
    (¬ (Contains old.failing old.calls)) × (n ≡ min room (length old.rest))
    × (new ≡ record old { rest = drop n old.rest; calls = next_count old.calls })
ReadsMemory old new room (Err _) =
    Contains old.failing old.calls
    × (new ≡ record old { calls = next_count old.calls; faults = next_count old.faults })

-- A write fails exactly where its number is listed. Else it takes the whole piece, or memory ran
-- out.
abbrev pub WritesMemory : SinkState → SinkState → List ℕ → Result ℕ SinkFault → Type 0
WritesMemory old new piece (Ok n) =
    (¬ (Contains old.failing old.calls)) × (n ≡ length piece)
    × (new ≡ record old { held = old.held ++ piece; calls = next_count old.calls })
WritesMemory old new piece (Err sink.Failed) =
    Contains old.failing old.calls
    × (new ≡ record old { calls = next_count old.calls; faults = next_count old.faults })
WritesMemory old new piece (Err sink.OutOfMemory) =
    (¬ (Contains old.failing old.calls)) × (new ≡ record old { calls = next_count old.calls })

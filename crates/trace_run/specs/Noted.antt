-- What is noted of frames (the project's own).
use Rattle.std.specs.Prelude.{◌≡◌, ℕ, List, [], ◌∷◌, ◌++◌, length, slice_get, unwrap_or, Option}
use Rattle.sol_base.specs.declared.key.Key.{Key}
use Rattle.sol_base.specs.declared.key.TheConstants.{SYSTEM_PROGRAM}
use Rattle.sbpf_machine.specs.Steps.{State}
use Rattle.invoke_engine.specs.Invoked.{Invoked, Known}
use Rattle.invoke_engine.specs.Frames.{Carried, Running}
use Rattle.invoke_engine.specs.declared.ending.Ending.{Ending}
use Rattle.trace_run.specs.declared.found.Found.{Found}
use Rattle.trace_run.specs.declared.notes.Began.{Began}
use Rattle.trace_run.specs.declared.notes.Finished.{Finished}
use Rattle.trace_run.specs.declared.notes.Halted.{Halted}
use Rattle.trace_run.specs.declared.notes.Note.{Note}
use Rattle.trace_run.specs.declared.notes.Note.TheVariants.{Stops}
use Rattle.trace_run.specs.declared.notes.Step.{Step}

-- the program at a place among the transaction's keys
abbrev pub program_in : List Key → ℕ → Key
program_in keys place = unwrap_or (slice_get keys place) SYSTEM_PROGRAM

-- a frame that begins
abbrev pub began_of : ℕ → Known → Invoked → Carried → Began
began_of height known invoked carried = record {
  height = height;
  program = program_in known.keys invoked.call.program;
  place = invoked.call.program;
  metas = invoked.call.metas;
  «data» = invoked.call.input;
  units = invoked.units;
  heap = known.setting.heap;
  accounts = invoked.accounts;
  lines = length carried.log.lines;
}

-- a machine before its next instruction
abbrev pub step_of : State → Step
step_of machine = record {
  slot = machine.place;
  units = machine.units;
  registers = machine.context.registers;
}

-- the machine of a frame that stopped, with what its region has of an account
abbrev pub halted_of : Running → Option Found → Halted
halted_of frame found = record {
  slot = frame.machine.place;
  units = frame.machine.units;
  registers = frame.machine.context.registers;
  before = frame.before;
  found = found;
}

-- there is one note more, which says of the frame how it stopped
pub record IsStopNoted (frame : Running) (old new : List Note) : Type 0 where
  pub found : Option Found
  pub noted : new ≡ old ++ Stops (halted_of frame found) ∷ []

-- a frame that ended
abbrev pub finished_of : Ending → Carried → Finished
finished_of ending carried = record {
  units = ending.units;
  result = ending.result;
  returned = carried.returned;
  returned_by = carried.keeper;
  stopped_at = carried.stopped_at;
  lines = length carried.log.lines;
}

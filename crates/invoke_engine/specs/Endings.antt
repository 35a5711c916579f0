-- How frames end: with their last lines, and an error with the height of the frame that failed.
use Rattle.std.specs.Prelude.{ℕ, ◌-◌, List, Option, Some, Result, Ok, Err}
use Rattle.sol_base.specs.declared.key.Key.{Key}
use Rattle.sol_base.specs.declared.account.Account.{Account}
use Rattle.tx_report.specs.LogLines.{with_line}
use Rattle.tx_report.specs.declared.cause.Cause.TheVariants.{Abort}
use Rattle.tx_report.specs.declared.status.InstructionError.{InstructionError}
use Rattle.invoke_engine.specs.declared.call.StoppedAt.{StoppedAt}
use Rattle.invoke_engine.specs.declared.ending.Ending.{Ending as EndingValue}
use Rattle.invoke_engine.specs.declared.stopped.Stopped.{Stopped}
use Rattle.invoke_engine.specs.declared.stopped.Stopped.TheVariants.{Refused, OutOfMemory as no_memory}
use Rattle.invoke_engine.specs.Lines.{consumed_line, last_line}
use Rattle.invoke_engine.specs.Frames.{Carried, Running, Ending, height}

-- The ending that the code answers, with what is handed on then: the code changes that where it
-- stands, and has the rest alone in a value.
abbrev pub ending_as : EndingValue → Carried → Ending
ending_as e c = record { units = e.units; carried = c; result = e.result }

abbrev pub say : List ℕ → Carried → Carried
say line c = record c { log = with_line c.log line }

-- the error of a frame at this height; no definition gives out of memory
abbrev pub error_of : ℕ → Stopped → InstructionError
error_of height (Refused reason) =
    record { cause = reason.cause; detail = reason.detail; height = height }
error_of height no_memory = record { cause = Abort; detail = 0; height = height }

-- the accounts, or the error of a frame at this height
abbrev pub or_error : ℕ → Result (List Account) Stopped → Result (List Account) InstructionError
or_error height (Ok accounts) = Ok accounts
or_error height (Err stopped) = Err (error_of height stopped)

-- the end of a frame, with its last line
abbrev pub ending_of : Key → ℕ → Carried → Result (List Account) InstructionError → Ending
ending_of program units c result =
    record { units = units; carried = say (last_line program result) c; result = result }

-- the end of a frame whose program was ready: the line of the units that it and its callees used comes
-- before the last
abbrev pub closed : Key → ℕ → ℕ → Carried → Result (List Account) InstructionError → Ending
closed program had units c result =
    ending_of program units (say (consumed_line program (had - units) had) c) result

-- Where the program of a frame stopped, by its own accounts or its own refusal: the instruction
-- that its machine stands at, and the access that was refused, if that is why.
abbrev pub stop_of : Running → Option StoppedAt → Result (List Account) Stopped → Option StoppedAt
stop_of f earlier (Ok accounts) = earlier
stop_of f earlier (Err no_memory) = earlier
stop_of f earlier (Err (Refused reason)) =
    Some (record { program = f.program; slot = f.machine.place; access = reason.access })

-- the end of a frame that ran, by its own accounts or its own refusal
abbrev pub closes : List Key → Running → ℕ → Carried → Result (List Account) Stopped → Ending
closes outer f units c result =
    closed f.program f.had units (record c { stopped_at = stop_of f c.stopped_at result })
    (or_error (height outer) result)

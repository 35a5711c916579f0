-- One frame with the frames that it calls, and a top instruction (Solana; the causes of failures
-- are the project's own).
use Rattle.std.specs.Prelude.{ℕ, zero, suc, nat_le, List, [], ◌∷◌, None, Err, if◌then◌else◌}
use Rattle.sol_base.specs.declared.key.Key.{Key}
use Rattle.sol_base.specs.declared.key.TheConstants.{SYSTEM_PROGRAM}
use Rattle.sol_base.specs.declared.account.Account.{Account}
use Rattle.tx_report.specs.LogLines.{Log}
use Rattle.tx_report.specs.declared.cause.Cause.TheVariants.{UnitsSpent, TraceTooLong}
use Rattle.invoke_engine.specs.declared.call.Call.{Call}
use Rattle.invoke_engine.specs.Reasons.{plainly}
use Rattle.invoke_engine.specs.Endings.{error_of}
use Rattle.invoke_engine.specs.Frames.{max_trace}
pub use Rattle.invoke_engine.specs.Frames.{Fixed, Carried, Running, Ending, Next, Runs, Done, Callee, Turn, GoesOn, Calls, Leaves, height}
pub use Rattle.invoke_engine.specs.Turns.{turn}
pub use Rattle.invoke_engine.specs.Returning.{returned}
pub use Rattle.invoke_engine.specs.Starting.{begun}

-- the ending of what is next, where go is that of a frame in its middle with fewer units
abbrev pub after : List Key → (List Key → Running → Carried → Ending) → Next → Ending
after outer go (Runs f c) = go outer f c
after outer go (Done e) = e

-- the ending of a frame by its next turn; the frame of a callee has its caller around it
abbrev pub follow : Fixed → List Key → (List Key → Running → Carried → Ending) → Turn → Ending
follow s outer go (GoesOn f c) = go outer f c
follow s outer go (Calls f c callee units) =
    after outer go
    (returned outer f
    (after (f.program ∷ outer) go
    (begun s (f.program ∷ outer) callee.call callee.accounts units c)))
follow s outer go (Leaves e) = e

-- the ending of a frame in its middle, with a bound on its turns
unfoldable pub within : Fixed → ℕ → List Key → Running → Carried → Ending
within s zero outer f c =
    record { units = 0; carried = c; result = Err (error_of (height outer) (plainly UnitsSpent)) }
within s (suc n) outer f c = follow s outer (within s n) (turn s.setting s.keys outer f c)

-- the ending of a frame in its middle: each turn takes a unit, so one more than the units is bound
-- enough
abbrev pub go : Fixed → List Key → Running → Carried → Ending
go s outer f c = within s (suc f.machine.units) outer f c

-- the ending of one frame
abbrev pub frame : Fixed → List Key → Call → List Account → ℕ → Carried → Ending
frame s outer call accounts units c = after outer (go s) (begun s outer call accounts units c)

abbrev pub nothing_returned : ℕ → Log → Carried
nothing_returned trace log =
    record {
      trace = trace;
      returned = [];
      keeper = SYSTEM_PROGRAM;
      log = log;
      stopped_at = None;
    }

-- a top instruction: the 65th of a transaction is not started, and has no line
abbrev pub instruction : Fixed → Call → List Account → ℕ → ℕ → Log → Ending
instruction s call accounts units trace log =
    if nat_le max_trace trace
    then record {
      units = units;
      carried = nothing_returned trace log;
      result = Err (error_of 1 (plainly TraceTooLong));
    }
    else frame s [] call accounts units (nothing_returned trace log)

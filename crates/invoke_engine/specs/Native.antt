-- Frames of the native programs: the system program, the loader and the compute budget program,
-- which does nothing (Solana; the loader and the cost are the project's own).
use Rattle.std.specs.Prelude.{ℕ, ◌-◌, ◌||◌, nat_lt, Bool, List, Result, Ok, Err, if◌then◌else◌}
use Rattle.sol_base.specs.declared.key.Key.{Key}
use Rattle.sol_base.specs.declared.key.TheConstants.{SYSTEM_PROGRAM, COMPUTE_BUDGET_PROGRAM, LOADER_PROGRAM}
use Rattle.sol_base.specs.declared.account.Account.{Account}
use Rattle.sol_base.specs.Keys.{same_key}
use Rattle.tx_report.specs.declared.cause.Cause.TheVariants.{UnitsSpent}
use Rattle.system_prog.specs.SystemProgram.{system_row}
use Rattle.loader_prog.specs.Loader.{loader_row}
use Rattle.invoke_engine.specs.declared.call.Call.{Call}
use Rattle.invoke_engine.specs.declared.stopped.Stopped.{Stopped}
use Rattle.invoke_engine.specs.Reasons.{plainly, refuse, by_system, by_loader}
use Rattle.invoke_engine.specs.Frames.{Carried, Ending, height}
use Rattle.invoke_engine.specs.Endings.{error_of, or_error, ending_of}
use Rattle.invoke_engine.specs.declared.begin.TheConstants.{NATIVE_UNITS}

abbrev pub is_native : Key → Bool
is_native key =
    same_key key SYSTEM_PROGRAM
    || (same_key key LOADER_PROGRAM || same_key key COMPUTE_BUDGET_PROGRAM)

-- what a native program does
unfoldable pub native_row : Key → List Key → List Account → Call → Result (List Account) Stopped
native_row key keys accounts call =
    if same_key key SYSTEM_PROGRAM
    then refuse by_system (system_row keys accounts call.metas call.input) else
    if same_key key LOADER_PROGRAM
    then refuse by_loader (loader_row keys accounts call.metas call.input) else
    Ok accounts

-- the units of a native program are taken first; where fewer are left, they become 0
abbrev pub native : Key → List Key → List Key → Call → List Account → ℕ → Carried → Ending
native key outer keys call accounts units c =
    if nat_lt units NATIVE_UNITS then ending_of key 0 c (Err (error_of (height outer) (plainly UnitsSpent))) else
    ending_of key (units - NATIVE_UNITS) c (or_error (height outer) (native_row key keys accounts call))

-- Frames at their starts (Solana; that a missing program is found out here, and not before the
-- first instruction, is the project's own): the invoke line, the number of accounts, and then a
-- native program, or one that is ready and runs on a new machine.
use Rattle.std.specs.Prelude.{ℕ, ◌+◌, ◌&&◌, not, Bool, true, false, nat_lt, List, [], length, slice_get, unwrap_or, Err, if◌then◌else◌}
use Rattle.sol_base.specs.declared.key.Key.{Key}
use Rattle.sol_base.specs.declared.key.TheConstants.{SYSTEM_PROGRAM}
use Rattle.sol_base.specs.declared.account.Account.{Account}
use Rattle.tx_report.specs.LogLines.{with_line}
use Rattle.tx_report.specs.declared.cause.Cause.TheVariants.{UnknownProgram, BadImage, Unverified, TooManyAccounts}
use Rattle.sbpf_verify.specs.Faults.{fault_number}
use Rattle.sbpf_memory.specs.Memory.{fresh}
use Rattle.sbpf_machine.specs.Steps.{State, first_state}
use Rattle.abi_input.specs.Region.{input_of, max_metas}
use Rattle.program_cache.specs.Ready.{ReadyImage}
use Rattle.program_cache.specs.Programs.{Sought, IsReady, IsAbsent, IsNoProgram, IsBad, IsUnverified}
use Rattle.invoke_engine.specs.declared.begin.Next.{Next as NextValue}
use Rattle.invoke_engine.specs.declared.begin.Next.TheVariants.{Runs as RunsValue, Done as DoneValue}
use Rattle.invoke_engine.specs.declared.call.Call.{Call}
use Rattle.invoke_engine.specs.declared.call.Setting.{Setting}
use Rattle.invoke_engine.specs.declared.stopped.Stopped.{Stopped}
use Rattle.invoke_engine.specs.Reasons.{at, plainly}
use Rattle.invoke_engine.specs.Lines.{invoke_line}
use Rattle.invoke_engine.specs.Frames.{Fixed, Carried, Running, Ending, Next, Runs, Done, height}
use Rattle.invoke_engine.specs.Endings.{error_of, ending_as, ending_of, closed}
use Rattle.invoke_engine.specs.Native.{is_native, native}

-- what the code answers is next, with what is handed on then
abbrev pub next_as : NextValue → Carried → Next
next_as (RunsValue f) c = Runs f c
next_as (DoneValue e) c = Done (ending_as e c)

-- the key at a place of the transaction
abbrev pub key_at : List Key → ℕ → Key
key_at keys i = unwrap_or (slice_get keys i) SYSTEM_PROGRAM

-- a machine at the start of a program
abbrev pub first_machine : Setting → List Key → Key → ReadyImage → Call → List Account → ℕ → State
first_machine setting keys key image call accounts units =
    first_state image.text
    (fresh image.bytes setting.heap
    (record {
      bytes = input_of keys accounts call.metas call.input key;
      prepared = [];
      lent = [];
    }))
    units

-- the frame of a program at its start
abbrev pub first_running : Setting → List Key → Key → ReadyImage → Call → List Account → ℕ → Running
first_running setting keys key image call accounts units =
    record {
      program = key;
      metas = call.metas;
      start = accounts;
      before = accounts;
      had = units;
      machine = first_machine setting keys key image call accounts units;
    }

-- the end of a frame whose program does not run
abbrev pub refusing : Key → List Key → ℕ → Carried → Stopped → Ending
refusing key outer units c stopped = ending_of key units c (Err (error_of (height outer) stopped))

abbrev pub refused : Key → List Key → ℕ → Carried → Stopped → Next
refused key outer units c stopped = Done (refusing key outer units c stopped)

-- a program that is not native: it runs where it is ready
abbrev pub program_started : Setting → List Key → List Key → Key → Call → List Account → ℕ → Carried
    → Sought → Next
program_started setting keys outer key call accounts units c (IsReady image) =
    Runs (first_running setting keys key image call accounts units) c
program_started setting keys outer key call accounts units c IsAbsent =
    refused key outer units c (plainly UnknownProgram)
program_started setting keys outer key call accounts units c IsNoProgram =
    refused key outer units c (plainly UnknownProgram)
program_started setting keys outer key call accounts units c IsBad =
    refused key outer units c (plainly BadImage)
program_started setting keys outer key call accounts units c (IsUnverified fault) =
    refused key outer units c (at Unverified (fault_number fault))

abbrev pub is_ready : Sought → Bool
is_ready (IsReady image) = true
is_ready _ = false

-- a list of more accounts than a frame may list is refused before any unit is taken; where the
-- program is ready, the line of the units stands too
unfoldable pub crowded : (Key → Sought) → Key → List Key → ℕ → Carried → Ending
crowded programs key outer units c =
    if not (is_native key) && is_ready (programs key)
    then closed key units units c (Err (error_of (height outer) (plainly TooManyAccounts)))
    else refusing key outer units c (plainly TooManyAccounts)

-- a frame after its first line
unfoldable pub entering : Fixed → List Key → Key → Call → List Account → ℕ → Carried → Next
entering s outer key call accounts units c =
    if nat_lt max_metas (length call.metas) then Done (crowded s.programs key outer units c) else
    if is_native key then Done (native key outer s.keys call accounts units c) else
    program_started s.setting s.keys outer key call accounts units c (s.programs key)

-- a started instruction: one more is counted, nothing is returned yet, and its first line stands
abbrev pub started : Key → ℕ → Carried → Carried
started key height c =
    record c { trace = c.trace + 1; returned = []; log = with_line c.log (invoke_line key height) }

-- a frame at its start, with the frames of these programs around it
unfoldable pub begun : Fixed → List Key → Call → List Account → ℕ → Carried → Next
begun s outer call accounts units c =
    let key = key_at s.keys call.program in
    entering s outer key call accounts units (started key (height outer) c)

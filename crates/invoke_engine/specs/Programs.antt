-- The programs that run in the frames of an instruction: its own, and those that are called.
use Rattle.std.specs.Prelude.{ℕ, zero, suc, nat_le, List, [], ◌∷◌, ◌++◌, if◌then◌else◌}
use Rattle.sol_base.specs.declared.key.Key.{Key}
use Rattle.sol_base.specs.declared.account.Account.{Account}
use Rattle.tx_report.specs.LogLines.{Log}
use Rattle.invoke_engine.specs.declared.call.Call.{Call}
use Rattle.invoke_engine.specs.Frames.{max_trace}
use Rattle.invoke_engine.specs.Frame.{Fixed, Carried, Running, Ending, Next, Runs, Done, Turn, GoesOn, Calls, Leaves, after, begun, nothing_returned, returned, turn, within}
use Rattle.invoke_engine.specs.Starting.{key_at}

-- those that what is next calls, where calls are the programs that a frame in its middle calls
abbrev pub called_next : List Key → (List Key → Running → Carried → List Key) → Next → List Key
called_next outer calls (Runs f c) = calls outer f c
called_next outer calls (Done e) = []

-- those that a frame calls by its next turn and after it: a callee, those that the callee calls,
-- and those that the frame calls once it has returned
abbrev pub called_by_turn : Fixed → List Key → (List Key → Running → Carried → Ending)
    → (List Key → Running → Carried → List Key) → Turn → List Key
called_by_turn s outer go calls (GoesOn f c) = calls outer f c
called_by_turn s outer go calls (Calls f c callee units) =
    let inner = f.program ∷ outer in
    let next = begun s inner callee.call callee.accounts units c in
    key_at s.keys callee.call.program
    ∷ (called_next inner calls next
    ++ called_next outer calls (returned outer f (after inner go next)))
called_by_turn s outer go calls (Leaves e) = []

-- those that a frame in its middle calls, with a bound on its turns
unfoldable pub called_within : Fixed → ℕ → List Key → Running → Carried → List Key
called_within s zero outer f c = []
called_within s (suc n) outer f c =
    called_by_turn s outer (within s n) (called_within s n) (turn s.setting s.keys outer f c)

-- those that it calls: the bound is that of its ending
abbrev pub called_in : Fixed → List Key → Running → Carried → List Key
called_in s outer f c = called_within s (suc f.machine.units) outer f c

-- the program of a frame, and those that are called in it
abbrev pub programs_of_frame : Fixed → List Key → Call → List Account → ℕ → Carried → List Key
programs_of_frame s outer call accounts units c =
    key_at s.keys call.program ∷ called_next outer (called_in s) (begun s outer call accounts units c)

-- those of a top instruction, of which the 65th of a transaction is not started
abbrev pub programs_of_instruction : Fixed → Call → List Account → ℕ → ℕ → Log → List Key
programs_of_instruction s call accounts units trace log =
    if nat_le max_trace trace then []
    else programs_of_frame s [] call accounts units (nothing_returned trace log)

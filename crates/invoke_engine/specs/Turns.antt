-- One turn of a frame: its machine runs to its first stop, and the frame does there what the stop
-- asks for.
use Rattle.std.specs.Prelude.{◌==◌, List, Option, Some, None, Err, if◌then◌else◌}
use Rattle.sol_base.specs.declared.key.Key.{Key}
use Rattle.tx_report.specs.declared.cause.Cause.TheVariants.{Abort}
use Rattle.sbpf_machine.specs.Steps.{State, steps}
use Rattle.sbpf_machine.specs.declared.stop.Stop.{Stop}
use Rattle.sbpf_machine.specs.declared.stop.Stop.TheVariants.{Exit, Helper, Fault as Faulted}
use Rattle.invoke_engine.specs.declared.call.Setting.{Setting}
use Rattle.invoke_engine.specs.declared.turn.Turn.{Turn as TurnValue}
use Rattle.invoke_engine.specs.declared.turn.Turn.TheVariants.{GoesOn as GoesOnValue, Calls as CallsValue, Leaves as LeavesValue}
use Rattle.invoke_engine.specs.Reasons.{plainly, by_fault}
use Rattle.invoke_engine.specs.Frames.{Carried, Running, Turn, GoesOn, Calls, Leaves}
use Rattle.invoke_engine.specs.Endings.{closes, ending_as}
use Rattle.invoke_engine.specs.Leaving.{left}
use Rattle.invoke_engine.specs.Calling.{call_turn}
use Rattle.invoke_engine.specs.Serving.{serve_turn}
use Rattle.sbpf_isa.specs.Calls.{invoke_call}

-- The turn that the code answers, with the frame and what is handed on then, which it changes where
-- they stand. A frame that leaves is no more, so the cases here name the state of the others.
abbrev pub turn_as : TurnValue → Running → Carried → Turn
turn_as GoesOnValue f c = GoesOn f c
turn_as (CallsValue callee units) f c = Calls f c callee units
turn_as (LeavesValue e) f c = Leaves (ending_as e c)

-- what a frame would do whose machine never stopped; that a machine over a verified text always stops is
-- not proved
abbrev pub never : List Key → Running → Carried → Turn
never outer f c = Leaves (closes outer f 0 c (Err (plainly Abort)))

-- what a frame does whose machine stands at a stop
abbrev pub at_stop : Setting → List Key → List Key → Running → Carried → Option Stop → Turn
at_stop setting keys outer f c None = never outer f c
at_stop setting keys outer f c (Some (Exit r0)) =
    Leaves (closes outer f f.machine.units c (left f r0))
at_stop setting keys outer f c (Some (Faulted fault)) =
    Leaves (closes outer f f.machine.units c (Err (by_fault fault)))
at_stop setting keys outer f c (Some (Helper number)) =
    if number == invoke_call then call_turn setting keys outer f c else serve_turn setting outer f c number

abbrev pub run_to : Setting → List Key → List Key → Running → Carried → Option State → Turn
run_to setting keys outer f c None = never outer f c
run_to setting keys outer f c (Some x) =
    at_stop setting keys outer (record f { machine = x }) c x.stop

unfoldable pub turn : Setting → List Key → List Key → Running → Carried → Turn
turn setting keys outer f c = run_to setting keys outer f c (steps f.machine)

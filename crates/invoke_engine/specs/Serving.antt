-- What a frame does at a system call other than the cross-program call.
use Rattle.std.specs.Prelude.{◌≡◌, ℕ, List, Result, Ok, Err}
use Rattle.sol_base.specs.declared.key.Key.{Key}
use Rattle.sbpf_memory.specs.Memory.{Ranges}
use Rattle.sbpf_machine.specs.Steps.{resumed, arguments_in, with_units}
use Rattle.sbpf_machine.specs.Lending.{with_memory}
use Rattle.sys_calls.specs.SysCalls.{Service, SysAnswer, service, sys_row}
use Rattle.sys_calls.specs.declared.env.Env.{Env}
use Rattle.sys_calls.specs.declared.fault.SysFault.{SysFault}
use Rattle.invoke_engine.specs.declared.call.Setting.{Setting}
use Rattle.invoke_engine.specs.declared.stopped.Stopped.{Stopped}
use Rattle.invoke_engine.specs.declared.stopped.Stopped.TheVariants.{Refused, OutOfMemory as no_memory}
use Rattle.invoke_engine.specs.Reasons.{by_sys, refuse}
use Rattle.invoke_engine.specs.Frames.{Carried, Running, Turn, GoesOn, Leaves, height}
use Rattle.invoke_engine.specs.Endings.{closes}

-- the surroundings of a system call
abbrev pub env_of : Setting → List Key → Running → Carried → Env
env_of setting outer f c = record {
  slot = setting.slot;
  program = f.program;
  height = height outer;
  units = f.machine.units;
  returned = c.returned;
  returned_by = c.keeper;
  logs = c.log;
}

-- the machine goes on behind its stop, with this memory, these units and this r0
abbrev pub onward : Running → Ranges → ℕ → ℕ → Running
onward f memory units r0 =
    record f { machine = resumed (with_units (with_memory f.machine memory) units) r0 }

abbrev pub serving : List Key → Running → Carried → ℕ → Result Service SysFault → Turn
serving outer f c units (Ok done) =
    GoesOn (onward f done.memory units done.r0) (record c {
      returned = done.returned;
      keeper = done.keeper;
      log = done.log;
    })
serving outer f c units (Err fault) = Leaves (closes outer f units c (Err (by_sys fault)))

abbrev pub served : Setting → List Key → Running → Carried → ℕ → SysAnswer
served setting outer f c number =
    sys_row number (arguments_in f.machine.context.registers) f.machine.context.memory
    (env_of setting outer f c)

abbrev pub serve_turn : Setting → List Key → Running → Carried → ℕ → Turn
serve_turn setting outer f c number =
    serving outer f c (served setting outer f c number).units
    (served setting outer f c number).answer

-- a system call was served, or refused as the row says, or found no memory
abbrev pub ServesAs : SysAnswer → Ranges → Env → Env → Result ℕ Stopped → Type 0
ServesAs row memory env env' (Ok r0) =
    (row.answer ≡ Ok (service r0 memory env')) × (row.units ≡ env'.units)
ServesAs row memory env env' (Err no_memory) = Unit {0}
ServesAs row memory env env' (Err (Refused reason)) =
    (refuse by_sys row.answer ≡ Err (Refused reason)) × (env' ≡ record env { units = row.units })

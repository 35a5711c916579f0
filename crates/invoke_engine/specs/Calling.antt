-- What a frame does that calls another program (Solana; the order is the project's own): the
-- request, the callee's rights, the caller's accounts and rules, and whether the callee may start,
-- in this order.
use Rattle.std.specs.Prelude.{◌≡◌, ℕ, ◌&&◌, not, nat_le, List, Result, Ok, Err, if◌then◌else◌}
use Rattle.spec_base.specs.Reading.{◌>>=◌}
use Rattle.sol_base.specs.declared.key.Key.{Key}
use Rattle.sol_base.specs.declared.account.Account.{Account}
use Rattle.sol_base.specs.Keys.{same_key, has_key}
use Rattle.sbpf_machine.specs.Steps.{arguments_in}
use Rattle.cpi_calls.specs.Calls.{Requested, request_of}
use Rattle.cpi_calls.specs.Rights.{rights_of}
use Rattle.cpi_calls.specs.declared.request.CallRequest.{CallRequest}
use Rattle.cpi_calls.specs.declared.fault.CallFault.{CallFault}
use Rattle.cpi_calls.specs.declared.grant.Granted.{Granted}
use Rattle.tx_report.specs.declared.cause.Cause.TheVariants.{TraceTooLong, StackHeight, Reentrancy}
use Rattle.invoke_engine.specs.declared.call.Setting.{Setting}
use Rattle.invoke_engine.specs.declared.stopped.Stopped.{Stopped}
use Rattle.invoke_engine.specs.declared.stopped.Stopped.TheVariants.{Refused, OutOfMemory as no_memory}
use Rattle.invoke_engine.specs.Reasons.{plainly, refuse, by_call, by_rights}
use Rattle.invoke_engine.specs.Frames.{Carried, Running, Callee, Turn, Calls, Leaves, height, max_trace}
use Rattle.invoke_engine.specs.Endings.{closes}
use Rattle.invoke_engine.specs.Leaving.{lawful_accounts}

-- whether a program may be called now, under this greatest height and with so many instructions
-- started; the caller itself may be called
unfoldable pub may_start : ℕ → List Key → Running → ℕ → Key → Result (Unit {0}) Stopped
may_start most outer f trace program =
    if nat_le max_trace trace then Err (plainly TraceTooLong) else
    if nat_le most (height outer) then Err (plainly StackHeight) else
    if not (same_key program f.program) && has_key program outer then Err (plainly Reentrancy) else
    Ok tt

abbrev pub callee_of : CallRequest → Granted → List Account → Callee
callee_of request granted accounts =
    record {
      call = record {
        program = granted.program;
        metas = granted.metas;
        input = request.input;
      };
      accounts = accounts;
    }

-- the callee of a request: its rights, then the accounts as the caller leaves them, then whether it
-- may start
unfoldable pub called : ℕ → List Key → List Key → Running → ℕ → Result CallRequest CallFault
    → Result Callee Stopped
called most keys outer f trace answer = do
  request ← refuse by_call answer
  granted ← refuse by_rights (rights_of request keys f.metas)
  accounts ← lawful_accounts f
  _ ← may_start most outer f trace request.program
  Ok (callee_of request granted accounts)

abbrev pub calling : List Key → Running → Carried → ℕ → Result Callee Stopped → Turn
calling outer f c units (Ok callee) = Calls f c callee units
calling outer f c units (Err stopped) = Leaves (closes outer f units c (Err stopped))

-- what the machine asks for, and the units then left
abbrev pub requested : Running → Requested
requested f =
    request_of (arguments_in f.machine.context.registers) f.machine.context.memory f.program
    f.machine.units

abbrev pub call_turn : Setting → List Key → List Key → Running → Carried → Turn
call_turn setting keys outer f c =
    calling outer f c (requested f).units
    (called setting.height keys outer f c.trace (requested f).answer)

-- a request was read, or refused as the definition says, with the units then left, or no memory was
-- found
abbrev pub Asks : Requested → ℕ → Result CallRequest Stopped → Type 0
Asks wanted units (Ok request) = (wanted.answer ≡ Ok request) × (wanted.units ≡ units)
Asks wanted units (Err no_memory) = Unit {0}
Asks wanted units (Err (Refused reason)) =
    (refuse by_call wanted.answer ≡ Err (Refused reason)) × (wanted.units ≡ units)

-- a callee was found, or refused as the definition says, with the units then left, or no memory was
-- found
abbrev pub Comes : Result Callee Stopped → ℕ → ℕ → Result Callee Stopped → Type 0
Comes wanted left units (Ok callee) = (wanted ≡ Ok callee) × (left ≡ units)
Comes wanted left units (Err no_memory) = Unit {0}
Comes wanted left units (Err (Refused reason)) = (wanted ≡ Err (Refused reason)) × (left ≡ units)

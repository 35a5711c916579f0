-- What frames are made of: a frame runs one program with a list of accounts, and may call other
-- programs, each in a frame of its own (Solana).
use Rattle.std.specs.Prelude.{ℕ, ◌+◌, List, length, Option, Result}
use Rattle.sol_base.specs.declared.key.Key.{Key}
use Rattle.sol_base.specs.declared.account.Account.{Account}
use Rattle.sol_base.specs.declared.lock.Meta.{Meta}
use Rattle.tx_report.specs.LogLines.{Log}
use Rattle.tx_report.specs.declared.status.InstructionError.{InstructionError}
use Rattle.sbpf_machine.specs.Steps.{State}
use Rattle.program_cache.specs.Programs.{Sought}
use Rattle.invoke_engine.specs.declared.call.Setting.{Setting}
use Rattle.invoke_engine.specs.declared.call.StoppedAt.{StoppedAt}
use Rattle.invoke_engine.specs.declared.stop.TheConstants.{MAX_TRACE}
pub use Rattle.invoke_engine.specs.declared.ending.Callee.{Callee}

-- what is fixed beside the frames of a transaction: what is found under the key of a program, the
-- setting, and the transaction's keys
pub record Fixed : Type 0 where
  pub programs : Key → Sought
  pub setting : Setting
  pub keys : List Key

abbrev pub fixed : (Key → Sought) → Setting → List Key → Fixed
fixed programs setting keys = record { programs = programs; setting = setting; keys = keys }

-- what frames hand on to each other beside accounts and units: the number of started instructions,
-- the returned bytes with their keeper, the log, and where the program stopped that failed first
pub record Carried : Type 0 where
  pub trace : ℕ
  pub returned : List ℕ
  pub keeper : Key
  pub log : Log
  pub stopped_at : Option StoppedAt

-- A frame of a program in its middle: its list, the accounts at its start, those at its start or at
-- the last return of a callee, the units at its start, and its machine.
pub record Running : Type 0 where
  pub program : Key
  pub metas : List Meta
  pub start : List Account
  pub before : List Account
  pub had : ℕ
  pub machine : State

-- how a frame ends: the units left, what it hands on, and the accounts or why it failed
pub record Ending : Type 0 where
  pub units : ℕ
  pub carried : Carried
  pub result : Result (List Account) InstructionError

-- a frame that starts, or whose callee has ended, runs or has ended itself
pub data Next : Type 0 where
  Runs : Running → Carried → Next
  Done : Ending → Next

-- what a frame does at a stop of its machine: it goes on, it calls another program with the units
-- then left, or it ends
pub data Turn : Type 0 where
  GoesOn : Running → Carried → Turn
  Calls : Running → Carried → Callee → ℕ → Turn
  Leaves : Ending → Turn

-- the height of the frame that has the frames of these programs around it, the innermost first
abbrev pub height : List Key → ℕ
height outer = length outer + 1

-- the most instructions that a transaction starts (Solana)
abbrev pub max_trace : ℕ
max_trace = MAX_TRACE

-- the greatest height of a frame: an error has it in one byte
abbrev pub max_height : ℕ
max_height = 255

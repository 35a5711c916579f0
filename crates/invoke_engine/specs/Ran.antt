-- What the caller of an instruction is told.
use Rattle.std.specs.Prelude.{◌≡◌, List, Result, Ok, Err}
use Rattle.sol_base.specs.declared.account.Account.{Account}
use Rattle.sol_base.specs.Accounts.{accounts_of}
use Rattle.tx_report.specs.LogLines.{Log}
use Rattle.tx_report.specs.declared.status.InstructionError.{InstructionError}
use Rattle.invoke_engine.specs.declared.call.Ended.{Ended}
use Rattle.invoke_engine.specs.declared.call.Ended.TheVariants.{Good, Failed}
use Rattle.invoke_engine.specs.declared.call.Ran.{Ran}
use Rattle.invoke_engine.specs.Frames.{Ending}

abbrev pub result_as : Ended → Result (List Account) InstructionError
result_as (Good accounts) = Ok (accounts_of accounts)
result_as (Failed error) = Err error

-- what an instruction did is the ending, with its log and where the program stopped that failed
pub record IsRun (e : Ending) (ran : Ran) (log : Log) : Type 0 where
  pub units : ran.units ≡ e.units
  pub trace : ran.trace ≡ e.carried.trace
  pub ended : result_as ran.ended ≡ e.result
  pub lines : log ≡ e.carried.log
  pub stopped : ran.stopped_at ≡ e.carried.stopped_at

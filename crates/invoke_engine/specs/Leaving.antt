-- What a frame leaves: its accounts, taken back from its region, where no account rule is broken,
-- and what r0 says at the exit (Solana; that r0 above 2^32 names no error is the project's own).
use Rattle.std.specs.Prelude.{ℕ, ◌==◌, nat_lt, List, Result, Ok, Err, if◌then◌else◌}
use Rattle.sol_base.specs.declared.account.Account.{Account}
use Rattle.account_rules.specs.AccountRules.{listed_rules}
use Rattle.abi_input.specs.Region.{back}
use Rattle.tx_report.specs.declared.cause.Cause.TheVariants.{Custom, InvalidError}
use Rattle.invoke_engine.specs.declared.stopped.Stopped.{Stopped}
use Rattle.invoke_engine.specs.Reasons.{at, plainly, refuse, by_length, by_rule}
use Rattle.invoke_engine.specs.Frames.{Running}
use Rattle.invoke_engine.specs.declared.stop.TheConstants.{CUSTOM_ZERO}
use Rattle.spec_base.specs.Reading.{◌>>=◌}

-- the accounts as the frame leaves them, before each call and at its exit: the rules are checked
-- against the values at its start or at the last return of a callee
unfoldable pub lawful_accounts : Running → Result (List Account) Stopped
lawful_accounts f = do
  accounts ← refuse by_length (back f.machine.context.memory.input.bytes f.start f.before f.metas)
  _ ← refuse by_rule (listed_rules f.program f.metas f.before accounts)
  Ok accounts

-- what r0 is where a program ends with its own error 0 (Solana)
abbrev pub custom_zero : ℕ
custom_zero = CUSTOM_ZERO

-- what r0 says at the exit
unfoldable pub exited : ℕ → Result (Unit {0}) Stopped
exited r0 =
    if r0 == 0 then Ok tt else
    if nat_lt r0 custom_zero then Err (at Custom r0) else
    if r0 == custom_zero then Err (at Custom 0) else
    Err (plainly InvalidError)

-- the accounts after the exit: they are taken back and the rules checked before r0 is looked at
unfoldable pub left : Running → ℕ → Result (List Account) Stopped
left f r0 = do
  accounts ← lawful_accounts f
  _ ← exited r0
  Ok accounts

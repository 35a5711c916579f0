-- What frames are run with, as the code has it: what is fixed beside all of them, and what one is
-- started with.
use Rattle.std.specs.Prelude.{ℕ, List}
use Rattle.sol_base.specs.declared.key.Key.{Key}
use Rattle.sol_base.specs.declared.account.Account.{Account}
use Rattle.program_cache.specs.Programs.{Listing, sought}
use Rattle.invoke_engine.specs.declared.call.Call.{Call}
use Rattle.invoke_engine.specs.declared.call.Setting.{Setting}
use Rattle.invoke_engine.specs.Frames.{Fixed, fixed}

-- the programs that are kept, the setting, and the transaction's keys
pub record Known : Type 0 where
  pub programs : Listing
  pub setting : Setting
  pub keys : List Key

abbrev pub fixed_in : Known → Fixed
fixed_in known = fixed (sought known.programs) known.setting known.keys

-- a call of a program, the accounts that it finds, and the units that it may take
pub record Invoked : Type 0 where
  pub call : Call
  pub accounts : List Account
  pub units : ℕ

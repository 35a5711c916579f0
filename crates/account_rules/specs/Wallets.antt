-- Accounts that pay fees and collect them (Solana).
use Rattle.std.specs.Prelude.{◌==◌, ◌&&◌, Bool, not, length}
use Rattle.sol_base.specs.declared.key.TheConstants.{SYSTEM_PROGRAM}
use Rattle.sol_base.specs.declared.account.Account.{Account}
use Rattle.sol_base.specs.Keys.{same_key}

-- an account of the system program, no program itself and without data
abbrev pub is_wallet : Account → Bool
is_wallet account = same_key account.owner SYSTEM_PROGRAM && not account.executable
    && (length account.bytes == 0)

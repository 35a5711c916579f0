-- Accounts and keys whose parts have the widths of their types.
use Rattle.std.specs.Prelude.{◌<◌, ◌^◌, List, All}
use Rattle.sol_base.specs.declared.key.Key.{Key}
use Rattle.sol_base.specs.declared.account.Account.{Account}
use Rattle.sol_base.specs.Keys.{IsKey}
use Rattle.sol_base.specs.Accounts.{IsShort}

-- an account that can stand in a region: its owner is a key, its lamports fit in 64 bits, and its
-- data are of a length that is allowed
pub record HasWidths (account : Account) : Type 0 where
  pub owner_is_key : IsKey account.owner
  pub lamports_fit : account.lamports < 2 ^ 64
  pub is_short : IsShort account

abbrev pub HaveWidths : List Account → Type 0
HaveWidths accounts = All HasWidths accounts

abbrev pub AreKeys : List Key → Type 0
AreKeys keys = All IsKey keys

use Rattle.std.proofs.Common.{◌≡◌, take}
use Rattle.sol_base.specs.Accounts.{accounts_of}
use Rattle.sol_base.proofs.account.share_all.Given as goal

abbrev pub invariant-loop-account : goal.invariant-loop-account
invariant-loop-account l = accounts_of l.shares ≡ accounts_of (take l.account-index l.accounts)

use Rattle.std.proofs.Common.{◌≡◌, ◌++◌, take}
use Rattle.sol_base.specs.Accounts.{accounts_of}
use Rattle.tx_exec.proofs.payer.share_each.Given as goal

abbrev pub invariant-loop-value : goal.invariant-loop-value
invariant-loop-value l = accounts_of l.into ≡ accounts_of l.fn.into ++ accounts_of (take l.value-index l.values)

use Rattle.std.proofs.Common.{◌≡◌}
use Rattle.sol_base.specs.Accounts.{accounts_of}
use Rattle.tx_exec.proofs.Rent.{first_from}
use Rattle.tx_exec.proofs.ending.find_broken_rent.Given as goal

abbrev pub invariant-loop-place : goal.invariant-loop-place
invariant-loop-place l = first_from 0 l.locks (accounts_of l.before) (accounts_of l.after) ≡ first_from l.place l.locks (accounts_of l.before) (accounts_of l.after)

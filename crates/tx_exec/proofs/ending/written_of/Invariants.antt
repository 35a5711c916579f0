use Rattle.std.proofs.Common.{◌≡◌, map, take}
use Rattle.sol_base.specs.Accounts.{accounts_of}
use Rattle.account_store.specs.State.{settled}
use Rattle.bank_law.specs.Lawful.{lent_for_writing}
use Rattle.tx_exec.proofs.ending.written_of.Given as goal

abbrev pub invariant-loop-place : goal.invariant-loop-place
invariant-loop-place l = accounts_of l.written ≡ map settled (lent_for_writing (take l.place l.locks) (take l.place (accounts_of l.values)))

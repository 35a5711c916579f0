use Rattle.sol_base.specs.Accounts.{accounts_of}
use Rattle.account_rules.proofs.Changes.{NoneBroken}
use Rattle.account_rules.proofs.rules.check_each.Given as goal

abbrev pub invariant-loop-i : goal.invariant-loop-i
invariant-loop-i l = NoneBroken l.program l.writable (accounts_of l.before) (accounts_of l.after) l.i

use Rattle.sol_base.specs.Accounts.{accounts_of}
use Rattle.invoke_engine.specs.Invoked.{fixed_in}
use Rattle.tx_exec.proofs.Steps.{Stands}
use Rattle.tx_exec.proofs.executing.execute.Given as goal

abbrev pub invariant-loop-index : goal.invariant-loop-index
invariant-loop-index g l = Stands (fixed_in l.transaction.context) l.transaction.chosen.now (accounts_of l.base) l.index l.accounts l.units l.trace l.log

use Rattle.std.proofs.Common.{List, sym, subst}
use Rattle.sol_base.specs.declared.account.Account.{Account}
use Rattle.sol_base.specs.Accounts.{accounts_of}
use Rattle.bank_law.specs.Lawful.{Fits}
use Rattle.tx_exec.proofs.Fitting.{charged_fits}
use Rattle.tx_exec.proofs.perform.pay.Goals as goal

pub returns-clause-fits : goal.returns-clause-fits
returns-clause-fits c =
    subst (λ (vs : List Account). Fits c.args.transaction.now.chosen.now.locks vs) (sym c.in_ok-base.ensures)
    (charged_fits c.args.transaction.now.chosen.now.locks (accounts_of c.args.values.now) c.total-fee.result
    c.requires.fits)

use Rattle.bank_law.proofs.Supply.{serial_less, serial_fits}
use Rattle.bank_law.proofs.laws.serial_runs_fit.Goals as goal

pub returns-clause-no_more : goal.returns-clause-no_more
returns-clause-no_more c = serial_less

pub returns-clause-fit : goal.returns-clause-fit
returns-clause-fit c = serial_fits

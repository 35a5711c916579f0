use Rattle.bank_law.proofs.Supply.{lamports_move, unwritten}
use Rattle.bank_law.proofs.laws.the_serial_run_changes_what_is_written.Goals as goal

pub returns-clause-lamports : goal.returns-clause-lamports
returns-clause-lamports c = lamports_move

pub returns-clause-unwritten : goal.returns-clause-unwritten
returns-clause-unwritten c = unwritten

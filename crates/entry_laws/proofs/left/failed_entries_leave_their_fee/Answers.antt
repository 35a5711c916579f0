use Rattle.entry_laws.proofs.LeftLaws.{dropped_leave_nothing, failed_pay_alone}
use Rattle.entry_laws.proofs.left.failed_entries_leave_their_fee.Goals as goal

pub returns-clause-failed : goal.returns-clause-failed
returns-clause-failed c = failed_pay_alone

pub returns-clause-dropped : goal.returns-clause-dropped
returns-clause-dropped c = dropped_leave_nothing

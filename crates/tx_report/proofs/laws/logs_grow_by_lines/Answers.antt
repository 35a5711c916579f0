use Rattle.tx_report.proofs.GrownLogs.{AreLogged-grown, HasGrown-log, HasGrown-small, HasGrown-text}
use Rattle.tx_report.proofs.laws.logs_grow_by_lines.Goals as goal

pub returns-clause-log : goal.returns-clause-log
returns-clause-log c = HasGrown-log

pub returns-clause-texts : goal.returns-clause-texts
returns-clause-texts c = HasGrown-text

pub returns-clause-small : goal.returns-clause-small
returns-clause-small c = HasGrown-small

pub returns-clause-logged : goal.returns-clause-logged
returns-clause-logged c = AreLogged-grown

use Rattle.tx_report.proofs.LogLaws.{IsLogOf-no_lines, IsLogOf-with_line}
use Rattle.tx_report.proofs.laws.logs_keep_the_longest_run.Goals as goal

pub returns-clause-none : goal.returns-clause-none
returns-clause-none c = IsLogOf-no_lines

pub returns-clause-more : goal.returns-clause-more
returns-clause-more c = IsLogOf-with_line

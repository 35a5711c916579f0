use Rattle.tx_report.proofs.StatusLaws.{status_from-status_bytes_of, status_bytes_of-status_from}
use Rattle.tx_report.proofs.laws.statuses_are_their_bytes.Goals as goal

pub returns-clause-again : goal.returns-clause-again
returns-clause-again c = status_from-status_bytes_of

pub returns-clause-found : goal.returns-clause-found
returns-clause-found c = status_bytes_of-status_from

use Rattle.json_parts.proofs.TransactionLaws.{transaction_again}
use Rattle.json_parts.proofs.laws.transactions_come_back.Goals as goal

pub returns : goal.returns
returns c = transaction_again

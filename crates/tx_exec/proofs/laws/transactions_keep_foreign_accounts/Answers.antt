use Rattle.tx_exec.proofs.Foreign.{transaction_foreign}
use Rattle.tx_exec.proofs.laws.transactions_keep_foreign_accounts.Goals as goal

pub returns : goal.returns
returns c = record { foreign = transaction_foreign }

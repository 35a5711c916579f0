use Rattle.std.proofs.Common.{◌∙◌, sym}
use Rattle.message_codec.proofs.RoleLaws.{lock_count}
use Rattle.tx_exec.proofs.Keeping.{transaction_fits, transaction_keeps}
use Rattle.tx_exec.proofs.Small.{transaction_small}
use Rattle.tx_exec.proofs.laws.transactions_keep_accounts.Goals as goal

pub returns-clause-keeps : goal.returns-clause-keeps
returns-clause-keeps c = transaction_keeps

pub returns-clause-fits : goal.returns-clause-fits
returns-clause-fits c block t values is count = transaction_fits block t values is count (count ∙ sym (lock_count t.tx.message t.loaded))

pub returns-clause-small : goal.returns-clause-small
returns-clause-small c = transaction_small

use Rattle.account_store.proofs.StateLaws.{sum-put, sum-remove}
use Rattle.account_store.proofs.laws.sums_follow_the_accounts.Goals as goal

pub returns-clause-put : goal.returns-clause-put
returns-clause-put c = sum-put

pub returns-clause-remove : goal.returns-clause-remove
returns-clause-remove c = sum-remove

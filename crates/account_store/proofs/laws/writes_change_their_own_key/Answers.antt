use Rattle.account_store.proofs.StateLaws.{get-put_key, get-remove_key, at-put, at-remove, same_at}
use Rattle.account_store.proofs.laws.writes_change_their_own_key.Goals as goal

pub returns-clause-put : goal.returns-clause-put
returns-clause-put c = get-put_key

pub returns-clause-put_at : goal.returns-clause-put_at
returns-clause-put_at c = at-put

pub returns-clause-remove : goal.returns-clause-remove
returns-clause-remove c = get-remove_key

pub returns-clause-remove_at : goal.returns-clause-remove_at
returns-clause-remove_at c = at-remove

pub returns-clause-same : goal.returns-clause-same
returns-clause-same c = same_at

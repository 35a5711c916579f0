use Rattle.account_store.proofs.SharedLaws.{IsKept-empty}
use Rattle.account_store.proofs.accounts.Accounts.new.Goals as goal

pub invariant_of-result : goal.invariant_of-result
invariant_of-result c = IsKept-empty _ c.new.ensures.empty

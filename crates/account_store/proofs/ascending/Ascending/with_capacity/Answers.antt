use Rattle.account_store.proofs.SharedLaws.{IsKept-empty}
use Rattle.account_store.proofs.ascending.Ascending.with_capacity.Goals as goal

pub invariant_of-result : goal.invariant_of-result
invariant_of-result c = IsKept-empty _ c.in_ok-with_capacity.ensures.items

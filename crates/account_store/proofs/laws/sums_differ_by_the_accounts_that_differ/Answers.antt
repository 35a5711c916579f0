use Rattle.account_store.proofs.SumLaws.{sums_differ, under-le}
use Rattle.account_store.proofs.laws.sums_differ_by_the_accounts_that_differ.Goals as goal

pub returns-clause-differ : goal.returns-clause-differ
returns-clause-differ c = sums_differ

pub returns-clause-within : goal.returns-clause-within
returns-clause-within c = under-le

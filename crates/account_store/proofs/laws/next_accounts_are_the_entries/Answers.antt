use Rattle.account_store.specs.State.{entries}
use Rattle.account_store.proofs.NextLaws.{entries_after-none, next_after-some, next_after-none}
use Rattle.account_store.proofs.laws.next_accounts_are_the_entries.Goals as goal

pub returns-clause-first : goal.returns-clause-first
returns-clause-first c = λ s. entries_after-none (entries s)

pub returns-clause-next : goal.returns-clause-next
returns-clause-next c = next_after-some

pub returns-clause-last : goal.returns-clause-last
returns-clause-last c = next_after-none

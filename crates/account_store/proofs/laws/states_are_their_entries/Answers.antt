use Rattle.sol_base.specs.Keys.{key_cmp}
use Rattle.account_store.proofs.EntryLists.{sorted-entries}
use Rattle.account_store.proofs.SortedLaws.{state_of-entries}
use Rattle.account_store.proofs.laws.states_are_their_entries.Goals as goal

pub returns-clause-ascends : goal.returns-clause-ascends
returns-clause-ascends c = λ s. sorted-entries key_cmp s

pub returns-clause-again : goal.returns-clause-again
returns-clause-again c = state_of-entries

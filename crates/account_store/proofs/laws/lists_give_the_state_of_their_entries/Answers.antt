use Rattle.account_store.proofs.SortedLaws.{state_of-ok, state_of-is, state_of-err, state_of-refused}
use Rattle.account_store.proofs.laws.lists_give_the_state_of_their_entries.Goals as goal

pub returns-clause-state : goal.returns-clause-state
returns-clause-state c = λ list s. (state_of-ok list s, λ h. state_of-is list s h.0 h.1)

pub returns-clause-refused : goal.returns-clause-refused
returns-clause-refused c = λ list fault. (state_of-err list fault, state_of-refused list fault)

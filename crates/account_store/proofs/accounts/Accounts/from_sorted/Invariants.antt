use Rattle.std.proofs.Common.{◌≡◌, ◌++◌, []}
use Rattle.std.specs.Vec.Iter.{into_iter_items}
use Rattle.account_store.specs.State.{entries}
use Rattle.account_store.specs.Sorted.{entries_of}
use Rattle.account_store.proofs.SortedLaws.{fault_after}
use Rattle.account_store.proofs.accounts.Accounts.from_sorted.Given as goal

-- the accounts are those of the entries so far, with which nothing is wrong
abbrev pub invariant-loop-entry : goal.invariant-loop-entry
invariant-loop-entry l = record {
  entries : entries l.ascending ≡ entries_of l.yielded;
  all : l.yielded ++ into_iter_items l.entry-iterator ≡ l.fn.entries;
  fault : fault_after [] (entries_of l.fn.entries) ≡ fault_after (entries_of l.yielded) (entries_of (into_iter_items l.entry-iterator));
}

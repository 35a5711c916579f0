use Rattle.std.proofs.Common.{◌≡◌, ◌+◌, ◌-◌, ◌++◌, [], None, length}
use Rattle.std.specs.Option.{option_to_list}
use Rattle.account_store.proofs.Walks.{WalkedSoFar}
use Rattle.account_store.proofs.accounts.Accounts.walk_out.Given as goal

abbrev pub invariant-loop-next : goal.invariant-loop-next
invariant-loop-next l = record {
  walked : WalkedSoFar l.keys (option_to_list l.initial.next ++ l.initial.entries) (option_to_list l.next ++ l.entries) l.accounts.items l.rest.items l.total;
  ended : l.next ≡ None → l.entries ≡ [];
}

abbrev pub decreases-loop-next : goal.decreases-loop-next
decreases-loop-next l = (length l.keys - length l.accounts.items) + length (option_to_list l.next ++ l.entries)

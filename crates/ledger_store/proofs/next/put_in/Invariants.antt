use Rattle.std.proofs.Common.{◌≡◌, length}
use Rattle.std.specs.List.{AllByRecursion}
use Rattle.account_store.specs.State.{IsHeld, entries}
use Rattle.account_store.specs.Shared.{seen}
use Rattle.ledger_store.specs.Changes.{with_accounts}
use Rattle.ledger_store.proofs.next.put_in.Given as goal

-- what is still to be put in
abbrev pub invariant-loop-key : goal.invariant-loop-key
invariant-loop-key l = record {
  same : with_accounts (seen l.rest) l.accounts ≡ with_accounts (entries l.others) l.fn.accounts;
  held : AllByRecursion (λ e. IsHeld e.1) (seen l.rest);
}

abbrev pub decreases-loop-key : goal.decreases-loop-key
decreases-loop-key l = length l.rest

use Rattle.std.proofs.Common.{◌≡◌, ◌≤◌, ◌+◌, ◌-◌, ◌^◌, length}
use Rattle.std.specs.List.{AllByRecursion}
use Rattle.account_store.specs.State.{IsHeld, entries, lamports_of, sum}
use Rattle.account_store.specs.Shared.{seen}
use Rattle.ledger_store.specs.Changes.{puts}
use Rattle.ledger_store.proofs.next.put_over.Given as goal

-- what is still to be put in
abbrev pub invariant-loop-key : goal.invariant-loop-key
invariant-loop-key l = record {
  same : puts (seen l.rest) l.accounts ≡ puts (entries l.others) l.fn.accounts;
  held : AllByRecursion (λ e. IsHeld e.1) (seen l.rest);
  fits : sum l.accounts + lamports_of (seen l.rest) ≤ 2 ^ 64 - 1;
}

abbrev pub decreases-loop-key : goal.decreases-loop-key
decreases-loop-key l = length l.rest

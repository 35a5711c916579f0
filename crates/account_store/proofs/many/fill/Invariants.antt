use Rattle.std.proofs.Common.{◌≡◌, ◌-◌, ◌++◌, None, length, replicate}
use Rattle.account_store.proofs.many.fill.Given as goal

abbrev pub invariant-loop-accounts : goal.invariant-loop-accounts
invariant-loop-accounts l =
    l.accounts.items ++ replicate (l.len - length l.accounts.items) None ≡ l.initial.accounts.items ++ replicate (l.len - length l.initial.accounts.items) None

abbrev pub decreases-loop-accounts : goal.decreases-loop-accounts
decreases-loop-accounts l = l.len - length l.accounts.items

use Rattle.std.proofs.Common.{◌≡◌, ◌+◌, take}
use Rattle.account_store.proofs.Walks.{weight}
use Rattle.account_store.proofs.many.total_with.Given as goal

abbrev pub invariant-loop-entry : goal.invariant-loop-entry
invariant-loop-entry l = l.total ≡ l.before + weight (take l.entry-index l.entries)

use Rattle.std.proofs.Common.{◌≡◌, ◌++◌, not, filter, length}
use Rattle.account_store.specs.State.{get}
use Rattle.account_store.specs.Shared.{seen}
use Rattle.account_store.specs.Sorted.{entries_of}
use Rattle.ledger_store.specs.Changes.{is_kept, left_by}
use Rattle.ledger_store.proofs.compared.left_by.Given as goal

-- those so far, and those still to come
abbrev pub invariant-loop-key : goal.invariant-loop-key
invariant-loop-key l = entries_of l.left ++ filter (λ e. not (is_kept (get l.before e.0) e.1)) (seen l.rest) ≡ left_by l.before l.after

abbrev pub decreases-loop-key : goal.decreases-loop-key
decreases-loop-key l = length l.rest

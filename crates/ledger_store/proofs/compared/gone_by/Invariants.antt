use Rattle.std.proofs.Common.{◌≡◌, ◌++◌, map, filter, is_none, length}
use Rattle.account_store.specs.State.{get}
use Rattle.account_store.specs.Shared.{seen}
use Rattle.ledger_store.specs.Changes.{gone_by}
use Rattle.ledger_store.proofs.compared.gone_by.Given as goal

-- those so far, and those still to come
abbrev pub invariant-loop-key : goal.invariant-loop-key
invariant-loop-key l = l.gone ++ map (λ e. e.0) (filter (λ e. is_none (get l.after e.0)) (seen l.rest)) ≡ gone_by l.before l.after

abbrev pub decreases-loop-key : goal.decreases-loop-key
decreases-loop-key l = length l.rest

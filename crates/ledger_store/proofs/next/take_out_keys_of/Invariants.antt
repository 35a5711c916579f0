use Rattle.std.proofs.Common.{◌≡◌, map, length}
use Rattle.account_store.specs.State.{entries}
use Rattle.account_store.specs.Shared.{seen}
use Rattle.ledger_store.specs.Changes.{without}
use Rattle.ledger_store.proofs.next.take_out_keys_of.Given as goal

-- what is still to be taken out
abbrev pub invariant-loop-key : goal.invariant-loop-key
invariant-loop-key l = without (map (λ e. e.0) (seen l.rest)) l.accounts ≡ without (map (λ e. e.0) (entries l.others)) l.fn.accounts

abbrev pub decreases-loop-key : goal.decreases-loop-key
decreases-loop-key l = length l.rest

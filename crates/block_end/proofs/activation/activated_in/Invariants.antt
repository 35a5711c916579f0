use Rattle.std.proofs.Common.{◌≡◌, ◌++◌, length}
use Rattle.std.specs.List.{filter_map}
use Rattle.account_store.specs.State.{IsState}
use Rattle.account_store.specs.Shared.{seen}
use Rattle.block_end.specs.Activation.{activated_entry, activated_in}
use Rattle.block_end.proofs.activation.activated_in.Given as goal

-- those so far, and those among the accounts that are left
abbrev pub invariant-loop-key : goal.invariant-loop-key
invariant-loop-key l = record {
  found : l.found.items ++ filter_map activated_entry (seen l.rest) ≡ activated_in l.accounts;
  state : IsState l.accounts;
}

-- the accounts that are left
abbrev pub decreases-loop-key : goal.decreases-loop-key
decreases-loop-key l = length l.rest

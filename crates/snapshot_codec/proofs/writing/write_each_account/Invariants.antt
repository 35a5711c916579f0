use Rattle.std.proofs.Common.{length}
use Rattle.account_store.specs.State.{entries}
use Rattle.account_store.specs.Shared.{seen}
use Rattle.snapshot_codec.proofs.Walk.{IsWritten}
use Rattle.snapshot_codec.proofs.writing.write_each_account.Given as goal

-- the accounts but those that are left
abbrev pub invariant-loop-key : goal.invariant-loop-key
invariant-loop-key g l = IsWritten g.O.Output.holds l.fn.out l.out (entries l.accounts) (seen l.rest)

-- those that are left
abbrev pub decreases-loop-key : goal.decreases-loop-key
decreases-loop-key g l = length l.rest

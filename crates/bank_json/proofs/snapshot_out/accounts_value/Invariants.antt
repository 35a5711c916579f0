use Rattle.std.proofs.Common.{◌≡◌, ◌++◌, length, map}
use Rattle.serde_json.specs.View.{view}
use Rattle.account_store.specs.State.{entries}
use Rattle.account_store.specs.Shared.{seen}
use Rattle.bank_json.specs.SnapshotJson.{account_json}
use Rattle.bank_json.proofs.snapshot_out.accounts_value.Given as goal

-- the accounts but those that are left
abbrev pub invariant-loop-key : goal.invariant-loop-key
invariant-loop-key l = map view l.values.items ++ map account_json (seen l.rest) ≡ map account_json (entries l.accounts)

-- those that are left
abbrev pub decreases-loop-key : goal.decreases-loop-key
decreases-loop-key l = length l.rest

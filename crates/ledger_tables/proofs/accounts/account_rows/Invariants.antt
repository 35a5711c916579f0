use Rattle.std.proofs.Common.{◌≡◌, ◌++◌, length, map}
use Rattle.account_store.specs.State.{entries}
use Rattle.account_store.specs.Shared.{seen}
use Rattle.ledger_tables.specs.Rows.{account_row}
use Rattle.ledger_tables.proofs.accounts.account_rows.Given as goal

-- the rows so far and those of the accounts that are left
abbrev pub invariant-loop-key : goal.invariant-loop-key
invariant-loop-key l = l.rows ++ map (account_row l.slot) (seen l.rest) ≡ map (account_row l.slot) (entries l.accounts)

-- the accounts that are left
abbrev pub decreases-loop-key : goal.decreases-loop-key
decreases-loop-key l = length l.rest

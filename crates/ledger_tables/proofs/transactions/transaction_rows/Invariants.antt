use Rattle.std.proofs.Common.{◌≡◌, map, take}
use Rattle.std.specs.List.{enumerate_from}
use Rattle.ledger_tables.specs.Rows.{transaction_row}
use Rattle.ledger_tables.proofs.transactions.transaction_rows.Given as goal

-- the rows so far
abbrev pub invariant-loop-position : goal.invariant-loop-position
invariant-loop-position l = l.rows ≡ map (transaction_row l.block.slot) (enumerate_from 0 (take l.position l.entries))
